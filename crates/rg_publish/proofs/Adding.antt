-- The exchange that adds a publication keeps the rule of the book.
use Rattle.std.proofs.Common.{◌≡◌, ℕ, zero, suc, ◌+◌, ◌<◌, ◌==◌, Bool, true, false, List, [], ◌∷◌, ◌++◌, length, refl, ap, sym, ◌∙◌, subst, arith, inl, length-append, None, Some}
use Rattle.std.specs.Prelude.{slice_get}
use Rattle.std.proofs.lemmas.List.{append-nil}
use Rattle.std.proofs.lemmas.Bool.Decides.{nat_tests}
use mathlib.Core.List.{IsPrefix}
use prog.Atomic.{either}
use Rattle.logbook.specs.Pages.{Cell, cell, keeps, no_nib, step, Moves, Goes}
use Rattle.rg_publish.specs.declared.history.Publication.{Publication}
use Rattle.rg_publish.specs.Publications.{IsNumbered, IsKept, Adds}
use Rattle.rg_publish.proofs.Lists.{prefix_whole}

abbrev E : Type 0
E = Publication

abbrev pub shown : List E → List E
shown log = []

abbrev pub moved : List E → List E → ℕ → Type 0
moved xs ys n = Unit {0}

numbered_snoc : (log : List E) (e : E) → IsNumbered log → e.serial ≡ length log + 1 → IsNumbered (log ++ e ∷ [])
numbered_snoc log e numbered is k p g = let r = from log 0 (λ j q x. let m = numbered j q x in omega arith) (omega arith) k p g in omega arith
  where
    from : (xs : List E) (n : ℕ) → ((k : ℕ) (p : E) → slice_get xs k ≡ Some p → p.serial ≡ (n + k) + 1) → e.serial ≡ (n + length xs) + 1 → (k : ℕ) (p : E) → slice_get (xs ++ e ∷ []) k ≡ Some p → p.serial ≡ (n + k) + 1
    from [] n h last zero p g = let same : e ≡ p = cc g in let s : e.serial ≡ p.serial = ap (λ (x : E). x.serial) same in omega arith
    from [] n h last (suc k) p g = absurd (cc g)
    from (x ∷ xs) n h last zero p g = h zero p g
    from (x ∷ xs) n h last (suc k) p g = let r = from xs (suc n) (λ j q y. let m = h (suc j) q y in omega arith) (omega arith) k p g in omega arith

pub adds_goes : (log v : List E) (e : E) (old : ℕ) → length v ≡ old → e.serial ≡ old + 1 → IsNumbered log → IsPrefix v log
    → (b : Bool) → (length log == old) ≡ b
    → Goes IsKept shown moved 0 (v, (no_nib, None)) (λ n. either (n == old) (old + 1) n) (Adds (step 0 old (old + 1) e) (v, (no_nib, None))) ((length log, true) ∷ (0, true) ∷ []) log
adds_goes log v e old len next numbered pre true is =
    let here : length log ≡ old = grind (arith, nat_tests) in
    let same : v ≡ log = prefix_whole v log pre (omega arith) in
    let numbered' : IsNumbered (log ++ e ∷ []) = numbered_snoc log e numbered (next ∙ ap (λ n. n + 1) (sym here)) in
    let n : either (length log == old) (old + 1) (length log) ≡ length (log ++ e ∷ []) = rw is (omega (arith, length-append log (e ∷ []))) in (
      keeps,
      e ∷ [],
      None,
      tt,
      record { words = ap (λ (k : ℕ). (k, true) ∷ (0, true) ∷ []) n; numbered = numbered' },
      inl (refl, refl),
      λ _. ap (λ w. w ++ e ∷ []) (sym same),
    )
adds_goes log v e old len next numbered pre false is =
    let all : log ++ [] ≡ log = append-nil log in
    let n : either (length log == old) (old + 1) (length log) ≡ length (log ++ []) = rw is (ap length (sym all)) in (
      keeps,
      [],
      None,
      tt,
      record { words = ap (λ (k : ℕ). (k, true) ∷ (0, true) ∷ []) n; numbered = subst IsNumbered (sym all) numbered },
      inl (refl, refl),
      λ (hit : length log ≡ old). absurd (grind (arith, nat_tests)),
    )

pub adds_moves : (v : List E) (e : E) (old : ℕ) → length v ≡ old → e.serial ≡ old + 1
    → Moves IsKept shown moved 0 (v, (no_nib, None)) (λ n. either (n == old) (old + 1) n) (Adds (step 0 old (old + 1) e) (v, (no_nib, None)))
adds_moves v e old len next cs log kept pre away =
    let P : List Cell → Type 0 = λ c. (0 < length c) × ((cell c 0).1 ≡ true) × Goes IsKept shown moved 0 (v, (no_nib, None)) (λ n. either (n == old) (old + 1) n) (Adds (step 0 old (old + 1) e) (v, (no_nib, None))) c log in
    subst P (sym kept.words) (omega arith, refl, adds_goes log v e old len next kept.numbered pre (length log == old) refl)
