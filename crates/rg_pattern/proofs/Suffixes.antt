-- Suffixes that pass a test.
use Rattle.std.proofs.Common.{◌≡◌, List, [], ◌∷◌, ◌++◌, Bool, true, false, refl, sym, ap, ◌∙◌, inl, inr}
use Rattle.std.proofs.lemmas.Bool.{false≢true, or_cases, or_left, or_right}
use Rattle.rg_pattern.specs.Tests.{some_suffix}
use Rattle.rg_pattern.specs.Steps.{some_later}

-- the whole is a suffix
pub some_suffix_whole : {X : Type 0} (f : List X → Bool) (t : List X) → f t ≡ true → some_suffix f t ≡ true
some_suffix_whole f [] e = e
some_suffix_whole f (x ∷ t) e = or_left _ _ e

pub some_suffix_later : {X : Type 0} (f : List X → Bool) (t : List X) → some_later f t ≡ true → some_suffix f t ≡ true
some_suffix_later f [] e = absurd (false≢true e)
some_suffix_later f (x ∷ t) e = or_right _ _ e

-- a test that needs one more element in front
pub later_shift : {X : Type 0} (g h : List X → Bool) → g [] ≡ false → ((x : X) (t : List X) → g (x ∷ t) ≡ true → h t ≡ true) → (t : List X) → some_suffix g t ≡ true → some_later h t ≡ true
later_shift g h n step [] e = absurd (false≢true (sym n ∙ e))
later_shift g h n step (x ∷ t) e = elim (or_cases (g (x ∷ t)) (some_suffix g t) e) [
  | inl now ↦ some_suffix_whole h t (step x t now)
  | inr on ↦ some_suffix_later h t (later_shift g h n step t on)
]

-- a suffix of a suffix is a suffix
pub some_suffix_twice : {X : Type 0} (f : List X → Bool) (t : List X) → some_later (some_suffix f) t ≡ true → some_suffix f t ≡ true
some_suffix_twice f [] e = absurd (false≢true e)
some_suffix_twice f (x ∷ t) e = or_right _ _ (once t e) where
  once : (s : List _) → some_suffix (some_suffix f) s ≡ true → some_suffix f s ≡ true
  once [] h = h
  once (y ∷ s) h = elim (or_cases (some_suffix f (y ∷ s)) (some_suffix (some_suffix f) s) h) [
    | inl now ↦ now
    | inr on ↦ or_right _ _ (once s on)
  ]

-- the suffix that passes, and what stands before it
pub suffix_of : {X : Type 0} (f : List X → Bool) (t : List X) → some_suffix f t ≡ true → (skipped rest : List X) × (t ≡ skipped ++ rest) × (f rest ≡ true)
suffix_of f [] e = ([], [], refl, e)
suffix_of f (x ∷ t) e = elim (or_cases (f (x ∷ t)) (some_suffix f t) e) [
  | inl now ↦ ([], x ∷ t, refl, now)
  | inr on ↦ let o = suffix_of f t on in (x ∷ o.0, o.1, ap (λ z. x ∷ z) o.2, o.3)
]

pub some_suffix-append : {X : Type 0} (f : List X → Bool) (skipped rest : List X) → f rest ≡ true → some_suffix f (skipped ++ rest) ≡ true
some_suffix-append f [] rest e = some_suffix_whole f rest e
some_suffix-append f (x ∷ skipped) rest e = or_right _ _ (some_suffix-append f skipped rest e)
