use Rattle.std.proofs.Common.{sym, ap, ◌∙◌}
use Rattle.std.specs.Ordering.{nat_cmp, is_eq}
use Rattle.std.specs.Cmp.Lexicographic.{slice_cmp}
use Rattle.rg_trie.specs.Keyed.{entries_of_key}
use Rattle.rg_trie.proofs.Stepping.{from_opened, from_rest, gives_first, gives_none}
use Rattle.rg_trie.proofs.walk.first_entry.Goals as goal

pub returns-in_default-clause-from : goal.returns-in_default-clause-from
returns-in_default-clause-from c = from_opened _ _ _ _ _ c.requires c.opened-open.ensures.same c.opened-open.ensures.walking

pub returns-then-is-clause-from : goal.returns-then-is-clause-from
returns-then-is-clause-from c = from_rest _ _ _ _ _ c.in-Some.ensures.cases.0 (from_opened _ _ _ _ _ c.requires c.opened-open.ensures.same c.opened-open.ensures.walking)

pub returns-then-is-clause-found : goal.returns-then-is-clause-found
returns-then-is-clause-found c =
    let key = c.args.prefix.now.seen in
    let from = from_opened key _ _ _ _ c.requires c.opened-open.ensures.same c.opened-open.ensures.walking in
    ap (entries_of_key key) (sym c.opened-open.ensures.same)
    ∙ gives_first key _ _ _ c.in-Some.first.now c.in-Some.ensures.cases.0 from (ap (λ k. is_eq (slice_cmp nat_cmp k key)) (sym c.as_str.ensures.read) ∙ sym c.if-is.ensures)

pub returns-clause-from : goal.returns-clause-from
returns-clause-from c = from_opened _ _ _ _ _ c.requires c.opened-open.ensures.same c.opened-open.ensures.walking

pub returns-clause-found : goal.returns-clause-found
returns-clause-found c =
    let key = c.args.prefix.now.seen in
    let from = from_opened key _ _ _ _ c.requires c.opened-open.ensures.same c.opened-open.ensures.walking in
    let none = gives_none key _ _ _ c.in-Some.first.now c.in-Some.ensures.cases.0 from (ap (λ k. is_eq (slice_cmp nat_cmp k key)) (sym c.as_str.ensures.read) ∙ sym c.if-is.ensures) in
    (ap (entries_of_key key) (sym c.opened-open.ensures.same) ∙ none, none)
