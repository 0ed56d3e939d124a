use Rattle.std.proofs.Common.{◌≡◌, ◌<◌, ℕ, List, Contains, slice_get, sym, ap, subst, ◌∙◌, inl, inr, arith}
use Rattle.rg_zones.specs.Candidates.{Filing, filed_as}
use Rattle.rg_zones.proofs.Searching.{here_or_before, item_there}
use Rattle.rg_zones.proofs.overlap.trie_of.Goals as goal

pub loop-place-preserved : goal.loop-place-preserved
loop-place-preserved c = λ place f key low there within.
    let n = c.loop-place.place in
    let zones = c.args.zones.now in
    let number : c.in-Ok.place ≡ n = first_of (omega arith, grind (arith, c.in-Ok.ensures)) in
    elim (here_or_before place n low) [
      | inl before ↦ c.in_ok-trie.ensures.kept (filed_as key place) (c.loop-place.invariant place f key before there within)
      | inr here ↦
          let item : c.index-zones-place.result ≡ f = item_there zones n f c.index-zones-place.result c.loop-place-test.true c.index-zones-place.is (sym (ap (slice_get zones) here) ∙ there) in
          let keys : c.deref.result.now ≡ f.keys = c.deref.ensures.value ∙ ap (λ (f : Filing). f.keys) (c.zone.view_is ∙ item) in
          subst (λ (m : ℕ). Contains c.in_ok-trie.trie (filed_as key m)) (number ∙ sym here)
          (c.in_ok-trie.ensures.filed key (subst (λ (ks : List (List ℕ)). Contains ks key) (sym keys) within))
    ]

pub returns : goal.returns
returns c = λ place f key low there within.
    let less : place < c.loop-place.place = omega arith in
    c.loop-place.invariant place f key less there within
