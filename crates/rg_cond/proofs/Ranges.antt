-- Addresses and the values that stand for them, character by character.
use Rattle.std.proofs.Common.{◌≡◌, ℕ, ◌-◌, suc, zero, true, false, ◌==◌, List, [], ◌∷◌, length, take, refl, sym, ap, ◌∙◌, arith}
use Rattle.std.specs.Str.{bytes_eq}
use Rattle.std.proofs.Math.Bool.{and-true}
use Rattle.std.proofs.lemmas.Bool.{and_parts, and_right, or_right}
use Rattle.std.proofs.lemmas.Bool.Decides.{nat_tests}
use Rattle.rg_cond.proofs.Instants.{no_answer}
use Rattle.rg_cond.specs.Conditions.{is_in_range, is_lone_star}

eq_self : (c : ℕ) → (c == c) ≡ true
eq_self c = grind (arith, nat_tests)

eq_no : (c d : ℕ) → (c ≡ d → ⊥) → (c == d) ≡ false
eq_no c d n = grind (arith, nat_tests)

-- no value is left
pub nothing_left : (address : List ℕ) → is_in_range [] address ≡ bytes_eq address []
unfolding is_in_range
nothing_left [] = refl
nothing_left (c ∷ address) = refl

-- a lone `*` is left
pub star_left : (address : List ℕ) → is_in_range (42 ∷ []) address ≡ true
unfolding is_in_range
star_left address = or_right _ _ refl

-- a character that is no lone `*` differs from one
no_star : (c : ℕ) → is_lone_star c [] ≡ false → (c == 42) ≡ false
no_star c h = sym (and-true (c == 42)) ∙ h

one_less : (c d : ℕ) (value : List ℕ) → length (c ∷ d ∷ value) - 1 ≡ suc (length (d ∷ value) - 1)
one_less c d value = omega arith

take_none : (n : ℕ) → let none : List ℕ = [] in take n none ≡ none
take_none zero = refl
take_none (suc n) = refl

-- the same character comes first
pub same_first : (c : ℕ) (value address : List ℕ) → is_lone_star c value ≡ false → is_in_range (c ∷ value) (c ∷ address) ≡ is_in_range value address
unfolding is_in_range
same_first c [] address h = rw (eq_self, no_star c h) refl
same_first c (d ∷ value) address h = rw (one_less, eq_self) refl

-- another character comes first, or none
pub other_first : (c d : ℕ) (value address : List ℕ) → is_lone_star c value ≡ false → (c ≡ d → ⊥) → is_in_range (c ∷ value) (d ∷ address) ≡ false
unfolding is_in_range
other_first c d [] address h n = rw (eq_no c d n, no_star c h) refl
other_first c d (x ∷ value) address h n = rw (one_less, eq_no c d n) refl

pub none_first : (c : ℕ) (value : List ℕ) → is_lone_star c value ≡ false → is_in_range (c ∷ value) [] ≡ false
unfolding is_in_range
none_first c [] h = rw (no_star c h) refl
none_first c (x ∷ value) h = rw take_none (and_right _ _ refl)

-- ---- a step, from what `split_char` gives

pub step_star : (value address rest : List ℕ) (c : ℕ) → value ≡ c ∷ rest → is_lone_star c rest ≡ true → is_in_range value address ≡ true
step_star value address [] c e h =
    let star : c ≡ 42 = is_star c ((and_parts (c == 42) true h).0) in
    ap (λ v. is_in_range v address) e ∙ ap (λ x. is_in_range (x ∷ []) address) star ∙ star_left address
  where
    is_star : (x : ℕ) → (x == 42) ≡ true → x ≡ 42
    is_star x f = grind (arith, nat_tests)
step_star value address (x ∷ rest) c e h = absurd (no_answer ((and_parts (c == 42) false h).1))

pub step_same : (value address rest others : List ℕ) (c d : ℕ) → value ≡ c ∷ rest → address ≡ d ∷ others → d ≡ c → is_lone_star c rest ≡ false
    → is_in_range rest others ≡ is_in_range value address
step_same value address rest others c d e f g h =
    sym (same_first c rest others h) ∙ (λ i. is_in_range (sym e i) (sym g i ∷ others)) ∙ ap (is_in_range value) (sym f)

pub step_other : (value address rest others : List ℕ) (c d : ℕ) → value ≡ c ∷ rest → address ≡ d ∷ others → (d ≡ c → ⊥) → is_lone_star c rest ≡ false
    → false ≡ is_in_range value address
step_other value address rest others c d e f g h =
    sym (other_first c d rest others h (λ x. g (sym x))) ∙ (λ i. is_in_range (sym e i) (sym f i))

pub step_none : (value address rest : List ℕ) (c : ℕ) → value ≡ c ∷ rest → address ≡ [] → is_lone_star c rest ≡ false → false ≡ is_in_range value address
step_none value address rest c e f h = sym (none_first c rest h) ∙ (λ i. is_in_range (sym e i) (sym f i))

pub step_end : (value address : List ℕ) → value ≡ [] → bytes_eq address [] ≡ is_in_range value address
step_end value address e = sym (nothing_left address) ∙ ap (λ v. is_in_range v address) (sym e)
