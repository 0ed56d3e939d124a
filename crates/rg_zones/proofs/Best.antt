-- The best of the pairs so far.
use Rattle.std.proofs.Common.{◌≡◌, ◌<◌, ◌⊎◌, ◌&&◌, ℕ, Bool, true, false, cond, List, [], ◌∷◌, Option, Some, None, Contains, refl, sym, ap, subst, ◌∙◌, inl, inr, arith}
use Rattle.std.proofs.lemmas.Bool.{false≢true}
use Rattle.std.proofs.lemmas.Option.{same_Some}
use Rattle.rg_base.proofs.Lists.{Contains-cases, Contains-first, Contains-later, Contains-none}
use Rattle.std.specs.List.{fold}
use Rattle.rg_zones.specs.Best.{better, is_less}
use Rattle.rg_zone_rules.specs.Overlap.{IsBefore}

-- what is best is a pair in order that passes
abbrev pub IsGood : (ℕ × ℕ → Bool) → Option (ℕ × ℕ) → Type 0
IsGood test best = (b : ℕ × ℕ) → best ≡ Some b → (b.0 < b.1) × (test b ≡ true)

-- the best is no later than the pair, if this passes
abbrev pub Covers : (ℕ × ℕ → Bool) → Option (ℕ × ℕ) → ℕ × ℕ → Type 0
Covers test best p = test p ≡ true → (b : ℕ × ℕ) × (best ≡ Some b) × (IsBefore p b → ⊥)

before-less : (p b : ℕ × ℕ) → is_less p (Some b) ≡ true → IsBefore p b
before-less p b h = grind arith

less-before : (p b : ℕ × ℕ) → is_less p (Some b) ≡ false → IsBefore p b → ⊥
less-before p b h = grind arith

before-trans : (p q r : ℕ × ℕ) → IsBefore p q → IsBefore q r → IsBefore p r
before-trans p q r h g = elim h [
  | inl low ↦ elim g [ inl k ↦ inl (omega arith) | inr k ↦ let e = k.0 in inl (omega arith) ]
  | inr same ↦ let e = same.0 in let l = same.1 in elim g [ inl k ↦ inl (omega arith) | inr k ↦ let f = k.0 in let m = k.1 in inr (omega arith, omega arith) ]
]

not-before_itself : (p : ℕ × ℕ) → IsBefore p p → ⊥
not-before_itself p h = elim h [ inl k ↦ omega arith | inr k ↦ let l = k.1 in omega arith ]

-- the outcomes of one comparison
abbrev pub Outcome : (ℕ × ℕ → Bool) → Option (ℕ × ℕ) → ℕ × ℕ → Option (ℕ × ℕ) → Type 0
Outcome test best p new = ((new ≡ Some p) × (test p ≡ true) × (is_less p best ≡ true)) ⊎ ((new ≡ best) × ((test p ≡ false) ⊎ (is_less p best ≡ false)))

pub outcome : (test : ℕ × ℕ → Bool) (best : Option (ℕ × ℕ)) (p : ℕ × ℕ) → Outcome test best p (better test best p)
outcome test best p = at (is_less p best) (test p) refl refl where
  at : (a b : Bool) → is_less p best ≡ a → test p ≡ b → Outcome test best p (cond (a && b) (Some p) best)
  at true true e h = inl (refl, h, e)
  at true false e h = inr (refl, inl h)
  at false b e h = inr (refl, inr e)

pub good_on : (test : ℕ × ℕ → Bool) (best : Option (ℕ × ℕ)) (p : ℕ × ℕ) → p.0 < p.1 → IsGood test best → IsGood test (better test best p)
good_on test best p less good = λ b e. elim (outcome test best p) [
  | inl new ↦ let same : p ≡ b = same_Some p b (sym new.0 ∙ e) in subst (λ (b : ℕ × ℕ). (b.0 < b.1) × (test b ≡ true)) same (less, new.1)
  | inr old ↦ good b (sym old.0 ∙ e)
]

-- what was covered stays so
pub covers_on : (test : ℕ × ℕ → Bool) (best : Option (ℕ × ℕ)) (p q : ℕ × ℕ) → Covers test best q → Covers test (better test best p) q
covers_on test best p q h = λ passes. let c = h passes in elim (outcome test best p) [
  | inl new ↦ (p, new.0, λ before. c.2 (before-trans q p c.0 before (before-less p c.0 (ap (is_less p) (sym c.1) ∙ new.2))))
  | inr old ↦ (c.0, old.0 ∙ c.1, c.2)
]

-- the pair itself is covered
pub covers_this : (test : ℕ × ℕ → Bool) (best : Option (ℕ × ℕ)) (p : ℕ × ℕ) → Covers test (better test best p) p
covers_this test best p = λ passes. elim (outcome test best p) [
  | inl new ↦ (p, new.0, not-before_itself p)
  | inr old ↦ elim old.1 [
    | inl fails ↦ absurd (false≢true (sym fails ∙ passes))
    | inr late ↦ at best refl late old.0
  ]
] where
  at : (o : Option (ℕ × ℕ)) → best ≡ o → is_less p o ≡ false → better test best p ≡ o → (b : ℕ × ℕ) × (better test best p ≡ Some b) × (IsBefore p b → ⊥)
  at None e l k = absurd (false≢true (sym l))
  at (Some b) e l k = (b, k, less-before p b l)

-- ---- over lists

-- a step compares pairs alone: it keeps what is good and what is covered
pub record IsStep {X : Type 0} (test : ℕ × ℕ → Bool) (step : Option (ℕ × ℕ) → X → Option (ℕ × ℕ)) (xs : List X) : Type 0 where
  pub good : (best : Option (ℕ × ℕ)) (x : X) → Contains xs x → IsGood test best → IsGood test (step best x)
  pub covers : (best : Option (ℕ × ℕ)) (x : X) (q : ℕ × ℕ) → Covers test best q → Covers test (step best x) q

pub later_steps : {X : Type 0} (test : ℕ × ℕ → Bool) (step : Option (ℕ × ℕ) → X → Option (ℕ × ℕ)) (x : X) (xs : List X) → IsStep test step (x ∷ xs) → IsStep test step xs
later_steps test step x xs s = record { good = λ best y w. s.good best y (Contains-later x xs y w); covers = s.covers }

pub fold_good : {X : Type 0} (test : ℕ × ℕ → Bool) (step : Option (ℕ × ℕ) → X → Option (ℕ × ℕ)) (xs : List X) → IsStep test step xs → (best : Option (ℕ × ℕ)) → IsGood test best → IsGood test (fold step best xs)
fold_good test step [] s best good = good
fold_good test step (x ∷ xs) s best good = fold_good test step xs (later_steps test step x xs s) (step best x) (s.good best x (Contains-first x xs) good)

pub fold_covers : {X : Type 0} (test : ℕ × ℕ → Bool) (step : Option (ℕ × ℕ) → X → Option (ℕ × ℕ)) (xs : List X) → IsStep test step xs → (best : Option (ℕ × ℕ)) (q : ℕ × ℕ) → Covers test best q → Covers test (fold step best xs) q
fold_covers test step [] s best q h = h
fold_covers test step (x ∷ xs) s best q h = fold_covers test step xs (later_steps test step x xs s) (step best x) q (s.covers best x q h)

-- what one of the steps covers is covered in the end
pub fold_reaches : {X : Type 0} (test : ℕ × ℕ → Bool) (step : Option (ℕ × ℕ) → X → Option (ℕ × ℕ)) (xs : List X) → IsStep test step xs → (x : X) (q : ℕ × ℕ) → Contains xs x
    → ((best : Option (ℕ × ℕ)) → Covers test (step best x) q) → (best : Option (ℕ × ℕ)) → Covers test (fold step best xs) q
fold_reaches test step [] s x q w h best = absurd (Contains-none x w)
fold_reaches {X = X} test step (y ∷ ys) s x q w h best = elim (Contains-cases y ys x w) [
  | inl same ↦ fold_covers test step ys (later_steps test step y ys s) (step best y) q (subst (λ (z : X). Covers test (step best z) q) (sym same) (h best))
  | inr on ↦ fold_reaches test step ys (later_steps test step y ys s) x q on h (step best y)
]
