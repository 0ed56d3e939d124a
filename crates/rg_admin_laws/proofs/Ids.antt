-- For proofs alone: ids and versions after a step.
use Rattle.std.proofs.Common.{arith, ◌≡◌, ◌≤◌, ◌<◌, ◌+◌, ◌-◌, ◌^◌, ℕ, ℤ, pos, ◌+ℤ◌, int_lt, true, false, cond, refl}
use Rattle.std.specs.Ordering.{int_eq}
use Rattle.std.proofs.lemmas.Bool.Decides.{Decides-int_eq}
use Rattle.std.proofs.lemmas.Int.{ints}
use Rattle.rg_delta.specs.Logs.{Book}
use Rattle.rg_delta.specs.Touches.{touched}
use Rattle.rg_delta.specs.declared.touch.Touch.{Touch}
use Rattle.rg_delta.specs.declared.touch.Touch.TheVariants.{Leaves, Notes, Restarts}
use Rattle.rg_admin_laws.specs.Changes.{next_id_after}
use Rattle.rg_admin_laws.proofs.Lists.{case}

-- below the limit on entries the next id is one more
pub next_by_one : (id : ℤ) (n : ℕ) → n < 2 ^ 62 → int_lt id (pos (n + 2)) ≡ true → next_id_after id ≡ id +ℤ pos 1
next_by_one id n low h =
    case (λ b. int_lt (pos (2 ^ 63 - 1)) (id +ℤ pos 1) ≡ b → cond b (pos (2 ^ 63 - 1)) (id +ℤ pos 1) ≡ id +ℤ pos 1) (int_lt (pos (2 ^ 63 - 1)) (id +ℤ pos 1))
    (λ _ past. absurd (grind (arith, ints))) (λ _ _. refl) refl

pub lt_more : (a b : ℤ) → int_lt a b ≡ true → int_lt a (b +ℤ pos 1) ≡ true
lt_more a b h = case (λ t. int_lt a (b +ℤ pos 1) ≡ t → t ≡ true) (int_lt a (b +ℤ pos 1)) (λ _ _. refl) (λ _ bad. absurd (grind (arith, ints))) refl

pub lt_next : (a : ℤ) → int_lt a (a +ℤ pos 1) ≡ true
lt_next a = case (λ t. int_lt a (a +ℤ pos 1) ≡ t → t ≡ true) (int_lt a (a +ℤ pos 1)) (λ _ _. refl) (λ _ bad. absurd (grind (arith, ints))) refl

pub lt_grown : (a : ℤ) (n : ℕ) → int_lt a (pos (n + 2)) ≡ true → int_lt (a +ℤ pos 1) (pos ((n + 1) + 2)) ≡ true
lt_grown a n h = case (λ t. int_lt (a +ℤ pos 1) (pos ((n + 1) + 2)) ≡ t → t ≡ true) (int_lt (a +ℤ pos 1) (pos ((n + 1) + 2))) (λ _ _. refl) (λ _ bad. absurd (grind (arith, ints))) refl

pub lt_wider : (a : ℤ) (n m : ℕ) → n ≤ m → int_lt a (pos (n + 2)) ≡ true → int_lt a (pos (m + 2)) ≡ true
lt_wider a n m le h = case (λ t. int_lt a (pos (m + 2)) ≡ t → t ≡ true) (int_lt a (pos (m + 2))) (λ _ _. refl) (λ _ bad. absurd (grind (arith, ints))) refl

-- an id below another isn't it
pub lt_differs : (a b : ℤ) → int_lt a b ≡ true → int_eq b a ≡ false
lt_differs a b h = case (λ t. int_eq b a ≡ t → t ≡ false) (int_eq b a) (λ _ is. let same = (Decides-int_eq b a).0 is in absurd (grind (arith, ints))) (λ _ _. refl) refl

-- a touched log's version rises by at most one
pub touched_low : {C : Type 0} (t : Touch C) (b : Book C) (n : ℕ) → b.version ≤ n + 1 → (touched t b).version ≤ (n + 1) + 1
touched_low Leaves b n h = omega (arith, h)
touched_low (Notes c) b n h = omega (arith, h)
touched_low Restarts b n h = omega (arith, h)
