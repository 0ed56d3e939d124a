use Rattle.std.proofs.Common.{◌≡◌, ◌++◌, [], true, ap, sym, ◌∙◌, subst}
use Rattle.std.specs.List.{All}
use Rattle.rg_trie.specs.declared.order.Mark.TheVariants.{Start}
use Rattle.rg_trie.specs.Blocks.{AreInOrder, pairs_of}
use Rattle.rg_trie.specs.Hashed.{Parted}
use Rattle.rg_trie.specs.Keyed.{entries_of_key}
use Rattle.rg_trie.specs.Sought.{before}
use Rattle.rg_trie.proofs.Keys.{passed_none}
use Rattle.rg_trie.proofs.Stepping.{from_first, from_start, rest_fits}
use Rattle.rg_trie.proofs.walk.from_key.Goals as goal

pub opened-whole-requires : goal.opened-whole-requires
opened-whole-requires c = let i = subst AreInOrder (sym c.as_slice-blocks.ensures.value) c.bucket.invariant in record { rising = i.ordered; sized = i.sized; counted = i.counted }

pub returns-then-is_past-clause-from : goal.returns-then-is_past-clause-from
returns-then-is_past-clause-from c = from_first c.args.prefix.now.seen _ _ c.opened-whole.ensures.walking (sym c.if-is_past.ensures)

pub returns-then-is_past-clause-fits : goal.returns-then-is_past-clause-fits
returns-then-is_past-clause-fits c = rest_fits _ [] _ _ (sym c.opened-whole.ensures.same) c.total_of-total.ensures c.total_of-total.type_inv

pub returns-then-is_past-clause-same : goal.returns-then-is_past-clause-same
returns-then-is_past-clause-same c = ap (entries_of_key c.args.prefix.now.seen) (c.opened-whole.ensures.same ∙ ap pairs_of c.as_slice-blocks.ensures.value ∙ c.bucket.view_is)

pub returns-clause-from : goal.returns-clause-from
returns-clause-from c = from_start _ c.args.prefix.now.seen _ _ (ap (λ (p : Parted). p.seen) c.prefix.view_is) c.advance.ensures.walking c.advance.ensures.left

pub returns-clause-fits : goal.returns-clause-fits
returns-clause-fits c = rest_fits _ c.advance.ensures.passed.0 _ _ c.advance.ensures.passed.1 c.total_of-total.ensures c.total_of-total.type_inv

pub returns-clause-same : goal.returns-clause-same
returns-clause-same c =
    let key = c.args.prefix.now.seen in
    let passed = c.advance.ensures.passed in
    let rest = c.advance.result.back.now ++ pairs_of c.advance.result.after.now in
    let same = ap (λ (p : Parted). p.seen) c.prefix.view_is in
    subst (λ ps. entries_of_key key rest ≡ entries_of_key key ps) (ap pairs_of c.as_slice-blocks.ensures.value ∙ c.bucket.view_is)
    (passed_none key _ passed.0 rest passed.1 (subst (λ k. All (λ p. before k Start p ≡ true) passed.0) same passed.2))
