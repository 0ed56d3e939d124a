-- Sets of places as bits, and tests of the numbers below a bound.
use Rattle.std.proofs.Common.{◌&&◌, ◌≡◌, ◌≢◌, ◌<◌, ◌≤◌, ◌+◌, ◌*◌, ◌/◌, ◌%◌, ◌^◌, ◌||◌, ℕ, zero, suc, nat_eq, max, set, Bool, true, false, List, length, take, get_or, refl, sym, ap, ◌∙◌, subst, ⊎_elim, arith, add-one}
use Rattle.std.proofs.Math.ListN.{replicate}
use Rattle.std.specs.Int.{bit_at, w64}
use Rattle.std.specs.Int.RustNames.{bit_or}
use Rattle.std.proofs.lemmas.Bool.{and_from, and_parts, both_ways, cases_lt, eq-eqb, eqb-true, false_from_ne_true, or_cases, or_from, or_left, or_right, true≢false}
use Rattle.std.proofs.lemmas.Bool.Decides.{eqb_tells}
use Rattle.std.proofs.lemmas.Grind.{get_or-set_at}
use Rattle.std.proofs.lemmas.List.{get_or-replicate, get_or-set_other, get_or-take, get_or_past, length-replicate, length-take-le}
use Rattle.std.proofs.lemmas.Nat.Bits.{bit_at-lt, bit_at-zero, bit_at_or, bit_at_set_other, bit_at_set_same}
use Rattle.rg_roles.specs.Places.{any_below, has}

-- ---- sets

has_at : (words : List ℕ) (i w k : ℕ) → i < length words → k / 64 ≡ i → has (set words i w) k ≡ nat_eq (bit_at w (k % 64)) 1
has_at words i w k l e = ap (λ x. nat_eq (bit_at x (k % 64)) 1) (get_or-set_at words i (k / 64) w 0 e l)

has_off : (words : List ℕ) (i w k : ℕ) → k / 64 ≢ i → has (set words i w) k ≡ has words k
has_off words i w k ne = ap (λ x. nat_eq (bit_at x (k % 64)) 1) (get_or-set_other words i (k / 64) w 0 ne)

has_past : (words : List ℕ) (k : ℕ) → length words ≤ k / 64 → has words k ≡ false
has_past words k past = ap (λ x. nat_eq (bit_at x (k % 64)) 1) (get_or_past words (k / 64) 0 past) ∙ ap (λ b. nat_eq b 1) (bit_at-zero (k % 64))

pub has_within : (words : List ℕ) (k : ℕ) → has words k ≡ true → k < 64 * length words
has_within words k h = ⊎_elim
    (λ l. omega arith)
    (λ past. absurd (true≢false (sym h ∙ has_past words k past)))
    (cases_lt (k / 64) (length words))

pub has_none : (n k : ℕ) → has (replicate n 0) k ≡ false
has_none n k = ⊎_elim
    (λ l. ap (λ x. nat_eq (bit_at x (k % 64)) 1) (get_or-replicate n (k / 64) 0 0 l) ∙ ap (λ b. nat_eq b 1) (bit_at-zero (k % 64)))
    (λ past. has_past (replicate n 0) k (rw length-replicate past))
    (cases_lt (k / 64) n)

other_place : (k place : ℕ) (rest : Bool) → k ≢ place → rest ≡ (nat_eq k place || rest)
other_place k place rest ne = ap (λ b. b || rest) (sym (false_from_ne_true (nat_eq k place) (λ h. ne (eqb-true k place h))))

-- one place more
pub has_insert : (words : List ℕ) (place : ℕ) → place / 64 < length words → (k : ℕ)
    → has (set words (place / 64) (bit_or (get_or words (place / 64) 0) (1 * 2 ^ (place % 64) % 18446744073709551616))) k ≡ (nat_eq k place || has words k)
has_insert words place l k = ⊎_elim
    (λ word. ⊎_elim
    (λ bit.
    has_at words (place / 64) new k l word.1
    ∙ ap (λ b. nat_eq (bit_at new b) 1) bit.1
    ∙ ap (λ x. nat_eq x 1) (bit_at_set_same w64 old (place % 64) (omega arith))
    ∙ sym (or_left (nat_eq k place) (has words k) (eq-eqb k place (let w : k / 64 ≡ place / 64 = word.1 in let b : k % 64 ≡ place % 64 = bit.1 in omega arith))))
    (λ bit.
    has_at words (place / 64) new k l word.1
    ∙ ap (λ x. nat_eq x 1) (bit_at_set_other w64 old (place % 64) (omega arith) (k % 64) bit.1)
    ∙ ap (λ i. nat_eq (bit_at (get_or words i 0) (k % 64)) 1) (sym word.1)
    ∙ other_place k place (has words k) (λ same. bit.1 (ap (λ n. n % 64) same)))
    (eqb_tells (k % 64) (place % 64)))
    (λ word.
    has_off words (place / 64) new k word.1
    ∙ other_place k place (has words k) (λ same. word.1 (ap (λ n. n / 64) same)))
    (eqb_tells (k / 64) (place / 64)) where
      old : ℕ
      old = get_or words (place / 64) 0

      new : ℕ
      new = bit_or (get_or words (place / 64) 0) (1 * 2 ^ (place % 64) % 18446744073709551616)

max_one : (a b : ℕ) → a < 2 → b < 2 → nat_eq (max a b) 1 ≡ (nat_eq a 1 || nat_eq b 1)
max_one zero zero la lb = refl
max_one zero (suc zero) la lb = refl
max_one zero (suc (suc b)) la lb = absurd (omega arith)
max_one (suc zero) zero la lb = refl
max_one (suc zero) (suc zero) la lb = refl
max_one (suc zero) (suc (suc b)) la lb = absurd (omega arith)
max_one (suc (suc a)) b la lb = absurd (omega arith)

or_false : (a b : Bool) → ((a || false) || b) ≡ (a || b)
or_false true b = refl
or_false false b = refl

-- the words of one more place of another set
pub include_more : (old words others : List ℕ) (at other : ℕ) → at < length words → at < length others → other ≡ get_or others at 0
    → ((k : ℕ) → has words k ≡ (has old k || has (take at others) k))
    → (k : ℕ) → has (set words at (bit_or (get_or words at 0) other)) k ≡ (has old k || has (take (at + 1) others) k)
include_more old words others at other lw lo is before k = ⊎_elim here away (eqb_tells (k / 64) at) where
  here : (nat_eq (k / 64) at ≡ true) × (k / 64 ≡ at) → has (set words at (bit_or (get_or words at 0) other)) k ≡ (has old k || has (take (at + 1) others) k)
  here word =
      let same : k / 64 ≡ at = word.1 in
      let fewer = length-take-le at others (omega arith) in
      let none = has_past (take at others) k (omega arith) in
      let kept : nat_eq (bit_at (get_or words at 0) (k % 64)) 1 ≡ (has old k || false) =
      ap (λ i. nat_eq (bit_at (get_or words i 0) (k % 64)) 1) (sym same) ∙ before k ∙ ap (λ b. has old k || b) none in
      let more : nat_eq (bit_at other (k % 64)) 1 ≡ has (take (at + 1) others) k =
      ap (λ x. nat_eq (bit_at x (k % 64)) 1) (is ∙ ap (λ i. get_or others i 0) (sym same) ∙ sym (get_or-take (at + 1) others (k / 64) 0 (omega arith))) in
      has_at words at (bit_or (get_or words at 0) other) k lw same
      ∙ ap (λ x. nat_eq x 1) (bit_at_or (get_or words at 0) other (k % 64))
      ∙ max_one (bit_at (get_or words at 0) (k % 64)) (bit_at other (k % 64)) (bit_at-lt (get_or words at 0) (k % 64)) (bit_at-lt other (k % 64))
      ∙ (λ i. kept i || more i) ∙ or_false (has old k) (has (take (at + 1) others) k)

  away : (nat_eq (k / 64) at ≡ false) × (k / 64 ≢ at) → has (set words at (bit_or (get_or words at 0) other)) k ≡ (has old k || has (take (at + 1) others) k)
  away word =
      let ne : k / 64 ≢ at = word.1 in
      has_off words at (bit_or (get_or words at 0) other) k ne ∙ before k ∙ ap (λ b. has old k || b) (⊎_elim
      (λ l. ap (λ x. nat_eq (bit_at x (k % 64)) 1) (get_or-take at others (k / 64) 0 l ∙ sym (get_or-take (at + 1) others (k / 64) 0 (omega arith))))
      (λ past.
      let fewer = length-take-le at others (omega arith) in
      let more = length-take-le (at + 1) others (omega arith) in
      has_past (take at others) k (omega arith) ∙ sym (has_past (take (at + 1) others) k (omega arith)))
      (cases_lt (k / 64) at))

-- ---- tests of numbers

pub any_below_from : (test : ℕ → Bool) (n k : ℕ) → k < n → test k ≡ true → any_below test n ≡ true
unfolding any_below
any_below_from test zero k l h = absurd (omega arith)
any_below_from test (suc n) k l h = ⊎_elim
    (λ below. or_left (any_below test n) (test n) (any_below_from test n k below h))
    (λ past. or_right (any_below test n) (test n) (subst (λ j. test j ≡ true) (let same : k ≡ n = omega arith in same) h))
    (cases_lt k n)

pub any_below_at : (test : ℕ → Bool) (n : ℕ) → any_below test n ≡ true → (k : ℕ) × (k < n) × (test k ≡ true)
unfolding any_below
any_below_at test zero h = absurd (true≢false (sym h))
any_below_at test (suc n) h = ⊎_elim
    (λ before. let a = any_below_at test n before in let l : a.0 < n = a.1 in (a.0, omega arith, a.2))
    (λ last. (n, omega arith, last))
    (or_cases (any_below test n) (test n) h)

pub none_below_more : (test : ℕ → Bool) (n : ℕ) → any_below test n ≡ false → test n ≡ false → any_below test (n + 1) ≡ false
unfolding any_below
none_below_more test n h last = rw add-one (or_from (any_below test n) (test n) h last)

pub none_below_zero : (test : ℕ → Bool) → any_below test 0 ≡ false
unfolding any_below
none_below_zero test = refl

pub and_false : (a b : Bool) → b ≡ false → (a && b) ≡ false
and_false true b h = h
and_false false b h = refl

-- ---- the places of a set, word by word

module _ (words : List ℕ) (pass : ℕ → Bool) (at : ℕ) where
  -- a place of the set passes
  abbrev pub in_set : ℕ → Bool
  in_set k = has words k && pass k

  -- a place of the word does
  abbrev pub in_word : ℕ → Bool
  in_word b = nat_eq (bit_at (get_or words at 0) b) 1 && pass (64 * at + b)

  pub word_found : at < length words → any_below in_word 64 ≡ true → any_below in_set (64 * length words) ≡ true
  word_found l h =
      let a = any_below_at in_word 64 h in
      let below : a.0 < 64 = a.1 in
      let parts = and_parts (nat_eq (bit_at (get_or words at 0) a.0) 1) (pass (64 * at + a.0)) a.2 in
      let word : (64 * at + a.0) / 64 ≡ at = omega arith in
      let bit : (64 * at + a.0) % 64 ≡ a.0 = omega arith in
      let kept : has words (64 * at + a.0) ≡ true = (λ i. nat_eq (bit_at (get_or words (word i) 0) (bit i)) 1) ∙ parts.0 in
      any_below_from in_set (64 * length words) (64 * at + a.0) (omega arith) (and_from (has words (64 * at + a.0)) (pass (64 * at + a.0)) kept parts.1)

  pub word_none : any_below in_set (64 * at) ≡ false → any_below in_word 64 ≡ false → any_below in_set (64 * (at + 1)) ≡ false
  word_none before none = false_from_ne_true (any_below in_set (64 * (at + 1))) (λ h.
      let a = any_below_at in_set (64 * (at + 1)) h in
      let below : a.0 < 64 * (at + 1) = a.1 in
      ⊎_elim
      (λ l. both_ways (any_below in_set (64 * at)) before (any_below_from in_set (64 * at) a.0 l a.2))
      (λ past.
      let word : a.0 / 64 ≡ at = omega arith in
      let whole : a.0 ≡ 64 * at + a.0 % 64 = omega arith in
      let parts = and_parts (has words a.0) (pass a.0) a.2 in
      both_ways (any_below in_word 64) none (any_below_from in_word 64 (a.0 % 64) (omega arith)
      (and_from (nat_eq (bit_at (get_or words at 0) (a.0 % 64)) 1) (pass (64 * at + a.0 % 64))
      (sym (ap (λ i. nat_eq (bit_at (get_or words i 0) (a.0 % 64)) 1) word) ∙ parts.0)
      (sym (ap pass whole) ∙ parts.1))))
      (cases_lt a.0 (64 * at)))

  pub word_zero : get_or words at 0 ≡ 0 → any_below in_word 64 ≡ false
  word_zero zero_word = false_from_ne_true (any_below in_word 64) (λ h.
      let a = any_below_at in_word 64 h in
      let parts = and_parts (nat_eq (bit_at (get_or words at 0) a.0) 1) (pass (64 * at + a.0)) a.2 in
      true≢false (sym parts.0 ∙ ap (λ w. nat_eq (bit_at w a.0) 1) zero_word ∙ ap (λ b. nat_eq b 1) (bit_at-zero a.0)))
