use Rattle.std.proofs.Common.{◌≡◌, ◌<◌, ℕ, List, [], ◌∷◌, Contains, take, length, sym, ap, subst, ◌∙◌, inl, inr, arith}
use Rattle.std.proofs.Math.Seq.{take-length}
use Rattle.std.proofs.lemmas.List.Elements.{Contains-append_cases}
use Rattle.rg_base.proofs.Lists.{Contains-cases, Contains-none, take_next}
use Rattle.rg_zones.specs.Candidates.{filed_as}
use Rattle.rg_zones.proofs.overlap.with_keys.Goals as goal

pub loop-key-preserved : goal.loop-key-preserved
loop-key-preserved c =
    let keys = c.args.keys.now in
    let i = c.loop-key.key-index in
    let x = c.key-item.result in
    let within : i < length keys = omega arith in
    let adds = c.in_ok-trie.ensures.holds in
    record {
      kept = λ p h. (adds p).1 (inr (c.loop-key.invariant.kept p h));
      filed = λ key h. elim (Contains-append_cases (take i keys) (x ∷ []) key (subst (λ (ks : List (List ℕ)). Contains ks key) (take_next i keys x within c.key-item.is) h)) [
        | inl before ↦ (adds (filed_as key c.args.place)).1 (inr (c.loop-key.invariant.filed key before))
        | inr last ↦ elim (Contains-cases x [] key last) [
          | inl here ↦ (adds (filed_as key c.args.place)).1 (inl (ap (λ (k : List ℕ). filed_as k c.args.place) (sym here ∙ sym c.as_str.ensures.read)))
          | inr none ↦ absurd (Contains-none key none)
        ]
      ];
    }

pub returns-clause-filed : goal.returns-clause-filed
returns-clause-filed c = λ key h.
    let keys = c.args.keys.now in
    let all : c.loop-key.key-index ≡ length keys = omega arith in
    c.loop-key.invariant.filed key (subst (λ (ks : List (List ℕ)). Contains ks key) (sym (ap (λ (n : ℕ). take n keys) all ∙ take-length keys)) h)
