use Rattle.std.proofs.Common.{◌++◌, ◌∷◌, [], ℕ, sym, ap, ◌∙◌, subst}
use Rattle.std.specs.Str.{chars}
use Rattle.rg_tree.specs.Hashes.{step}
use Rattle.rg_trie.specs.Hashed.{IsParted, Parted}
use Rattle.rg_trie.proofs.Parting.{parted_next, whole_more, shown_next}
use Rattle.rg_trie.proofs.prefix.Prefix.next.Goals as goal

pub up_to-requires : goal.up_to-requires
up_to-requires c =
    let p = c.self.inside in
    (chars p.seen.now ++ c.in-Some.c ∷ [], whole_more (chars p.value.now) (chars p.seen.now) (chars p.rest.now) _ c.in-Some.c c.self.invariant.whole c.in-Some.ensures)

pub invariant_of-result : goal.invariant_of-result
invariant_of-result c =
    let p = c.self.inside in
    let grown = c.up_to.ensures (chars p.seen.now ++ c.in-Some.c ∷ []) (whole_more (chars p.value.now) (chars p.seen.now) (chars p.rest.now) _ c.in-Some.c c.self.invariant.whole c.in-Some.ensures) in
    let made = parted_next p.fold (chars p.seen.now) (chars p.rest.now) _ _ c.in-Some.c c.in-Some.ensures grown (chars p.value.now) p.count c.longer.result p.state c.self.invariant c.longer.ensures in
    subst (λ (k : ℕ). IsParted p.fold (chars p.value.now) (chars c.up_to.result.now) (chars c.in-Some.rest.now) c.longer.result k) (sym (c.step.ensures ∙ ap (step p.state) c.folded_char.ensures)) made

pub returns-in-Some : goal.returns-in-Some
returns-in-Some c =
    let p = c.self.inside in
    let grown = c.up_to.ensures (chars p.seen.now ++ c.in-Some.c ∷ []) (whole_more (chars p.value.now) (chars p.seen.now) (chars p.rest.now) _ c.in-Some.c c.self.invariant.whole c.in-Some.ensures) in
    let shown = shown_next p.fold (chars p.seen.now) (chars p.rest.now) _ _ c.in-Some.c c.in-Some.ensures grown in
    (shown.0, sym (ap (λ (v : Parted). v.rest) c.self.view_is) ∙ shown.1, shown.2 ∙ ap (λ (v : Parted). v.seen ++ shown.0 ∷ []) c.self.view_is)
