-- Levels whose number is smaller, and lists by their places.
use Rattle.std.proofs.Common.{◌≡◌, ◌<◌, ◌≤◌, ◌+◌, ℕ, zero, suc, ℤ, Bool, true, false, not, cond, int_lt, List, [], ◌∷◌, length, Some, slice_get, refl, sym, ap, ◌∙◌, arith, inl, inr}
use Rattle.std.proofs.lemmas.Bool.{false≢true, and_parts, or_cases, or_left, or_right, not-true}
use Rattle.std.proofs.lemmas.Int.{ints}
use Rattle.std.proofs.lemmas.Option.{none-some, same_Some}
use Rattle.std.proofs.lemmas.Slice.Eq.{bytes_eq-Decides}
use Rattle.std.specs.List.{list_all, list_any}
use Rattle.std.specs.Str.{bytes_eq}
use Rattle.rg_base.specs.Texts.{all_distinct}
use Rattle.rg_defs.specs.declared.service_def.Level.{Level}

-- the element at a place, and what is known of each or of one
pub at_within : {X : Type 0} (xs : List X) (i : ℕ) → i < length xs → (x : X) × (slice_get xs i ≡ Some x)
at_within [] i h = absurd (omega arith)
at_within (x ∷ xs) zero h = (x, refl)
at_within (x ∷ xs) (suc i) h = at_within xs i (omega arith)

pub all_at : {X : Type 0} (p : X → Bool) (xs : List X) (i : ℕ) (x : X) → list_all p xs ≡ true → slice_get xs i ≡ Some x → p x ≡ true
all_at p [] i x h e = absurd (none-some x e)
all_at p (y ∷ xs) zero x h e = ap p (sym (same_Some y x e)) ∙ (and_parts (p y) (list_all p xs) h).0
all_at p (y ∷ xs) (suc i) x h e = all_at p xs i x (and_parts (p y) (list_all p xs) h).1 e

pub any_at : {X : Type 0} (p : X → Bool) (xs : List X) → list_any p xs ≡ true → (i : ℕ) × (x : X) × (slice_get xs i ≡ Some x) × (p x ≡ true)
any_at p [] h = absurd (false≢true h)
any_at p (y ∷ xs) h = elim (or_cases (p y) (list_any p xs) h) [
  | inl now ↦ (0, y, refl, now)
  | inr on ↦ let r = any_at p xs on in (suc r.0, r.1, r.2, r.3)
]

pub any_from : {X : Type 0} (p : X → Bool) (xs : List X) (i : ℕ) (x : X) → slice_get xs i ≡ Some x → p x ≡ true → list_any p xs ≡ true
any_from p [] i x e h = absurd (none-some x e)
any_from p (y ∷ xs) zero x e h = or_left (p y) (list_any p xs) (ap p (same_Some y x e) ∙ h)
any_from p (y ∷ xs) (suc i) x e h = or_right (p y) (list_any p xs) (any_from p xs i x e h)

-- levels with distinct names are told apart by them
pub same_level : (ls : List Level) (i j : ℕ) (x y : Level) → all_distinct (λ (l m : Level). bytes_eq m.name l.name) ls ≡ true
    → slice_get ls i ≡ Some x → slice_get ls j ≡ Some y → x.name ≡ y.name → x ≡ y
same_level [] i j x y d e f h = absurd (none-some x e)
same_level (l ∷ ls) zero zero x y d e f h = sym (same_Some l x e) ∙ same_Some l y f
same_level (l ∷ ls) zero (suc j) x y d e f h =
    let apart = not-true _ (and_parts (not (list_any (λ (m : Level). bytes_eq m.name l.name) ls)) (all_distinct (λ (l m : Level). bytes_eq m.name l.name) ls) d).0 in
    let name : y.name ≡ l.name = sym h ∙ ap (λ (m : Level). m.name) (sym (same_Some l x e)) in
    absurd (false≢true (sym apart ∙ any_from (λ (m : Level). bytes_eq m.name l.name) ls j y f ((bytes_eq-Decides y.name l.name).1 name)))
same_level (l ∷ ls) (suc i) zero x y d e f h =
    let apart = not-true _ (and_parts (not (list_any (λ (m : Level). bytes_eq m.name l.name) ls)) (all_distinct (λ (l m : Level). bytes_eq m.name l.name) ls) d).0 in
    let name : x.name ≡ l.name = h ∙ ap (λ (m : Level). m.name) (sym (same_Some l y f)) in
    absurd (false≢true (sym apart ∙ any_from (λ (m : Level). bytes_eq m.name l.name) ls i x e ((bytes_eq-Decides x.name l.name).1 name)))
same_level (l ∷ ls) (suc i) (suc j) x y d e f h =
    same_level ls i j x y (and_parts (not (list_any (λ (m : Level). bytes_eq m.name l.name) ls)) (all_distinct (λ (l m : Level). bytes_eq m.name l.name) ls) d).1 e f h

-- so many levels have a smaller number
abbrev pub rank : List Level → ℤ → ℕ
rank [] n = 0
rank (m ∷ ms) n = cond (int_lt m.level n) 1 0 + rank ms n

cond_le : (x y : Bool) (a b : ℕ) → (x ≡ true → y ≡ true) → a ≤ b → cond x 1 0 + a ≤ cond y 1 0 + b
cond_le false false a b f h = omega arith
cond_le false true a b f h = omega arith
cond_le true true a b f h = omega arith
cond_le true false a b f h = absurd (false≢true (f refl))

cond_lt : (x y : Bool) (a b : ℕ) → (x ≡ true → y ≡ true) → a < b → cond x 1 0 + a < cond y 1 0 + b
cond_lt false false a b f h = omega arith
cond_lt false true a b f h = omega arith
cond_lt true true a b f h = omega arith
cond_lt true false a b f h = absurd (false≢true (f refl))

less_trans : (a b c : ℤ) → int_lt b c ≡ true → int_lt a b ≡ true → int_lt a c ≡ true
less_trans a b c h k = grind (arith, ints)

less_self : (a : ℤ) → int_lt a a ≡ false
less_self a = grind (arith, ints)

rank_le : (ms : List Level) (a b : ℤ) → int_lt a b ≡ true → rank ms a ≤ rank ms b
rank_le [] a b h = omega arith
rank_le (m ∷ ms) a b h = cond_le (int_lt m.level a) (int_lt m.level b) _ _ (less_trans m.level a b h) (rank_le ms a b h)

rank_length : (ms : List Level) (a : ℤ) → rank ms a ≤ length ms
rank_length [] a = omega arith
rank_length (m ∷ ms) a = let h = cond_le (int_lt m.level a) true (rank ms a) (length ms) (λ e. refl) (rank_length ms a) in omega arith

first_lt : (x y : Bool) (a b : ℕ) → x ≡ false → y ≡ true → a ≤ b → cond x 1 0 + a < cond y 1 0 + b
first_lt false true a b e f h = omega arith
first_lt true y a b e f h = absurd (false≢true (sym e))
first_lt false false a b e f h = absurd (false≢true f)

-- a level of a smaller number has a smaller rank, and each rank is below the number of levels
pub rank_lt : (ms : List Level) (i : ℕ) (p : Level) (b : ℤ) → slice_get ms i ≡ Some p → int_lt p.level b ≡ true → rank ms p.level < rank ms b
rank_lt [] i p b e h = absurd (none-some p e)
rank_lt (m ∷ ms) zero p b e h =
    let same : m.level ≡ p.level = ap (λ (l : Level). l.level) (same_Some m p e) in
    first_lt (int_lt m.level p.level) (int_lt m.level b) _ _ (ap (λ (z : ℤ). int_lt z p.level) same ∙ less_self p.level) (ap (λ (z : ℤ). int_lt z b) same ∙ h) (rank_le ms p.level b h)
rank_lt (m ∷ ms) (suc i) p b e h = cond_lt (int_lt m.level p.level) (int_lt m.level b) _ _ (less_trans m.level p.level b h) (rank_lt ms i p b e h)

pub rank_within : (ms : List Level) (i : ℕ) (p : Level) → slice_get ms i ≡ Some p → rank ms p.level < length ms
rank_within [] i p e = absurd (none-some p e)
rank_within (m ∷ ms) zero p e =
    let h = first_lt (int_lt m.level p.level) true (rank ms p.level) (length ms) (ap (λ (l : Level). int_lt l.level p.level) (same_Some m p e) ∙ less_self p.level) refl (rank_length ms p.level) in
    omega arith
rank_within (m ∷ ms) (suc i) p e = let h = cond_lt (int_lt m.level p.level) true (rank ms p.level) (length ms) (λ t. refl) (rank_within ms i p e) in omega arith
