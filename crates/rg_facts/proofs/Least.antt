-- The first element before which no other stands, found by one pass.
use Rattle.std.proofs.Common.{◌≡◌, ◌||◌, ◌&&◌, Bool, true, false, not, cond, List, [], ◌∷◌, ◌++◌, Option, Some, None, refl, ap, sym, ◌∙◌, ℤ, int_lt, nat_lt, eqb, ℕ, arith}
use Rattle.std.proofs.lemmas.Bool.Decides.{nat_tests}
use Rattle.std.proofs.lemmas.Int.{ints}
use Rattle.std.specs.List.{find, list_any}
use Rattle.std.specs.Ordering.{int_eq}
use Rattle.rg_base.proofs.Lists.{find_agree}
use Rattle.rg_facts.specs.Best.{best_from, better, ranks_before}
use Rattle.rg_facts.specs.Choices.{choice_rank, goes_before}
use Rattle.rg_facts.specs.Firsts.{first_by, is_first}
use Rattle.rg_facts.specs.Flow.{has_lesser_id}

-- what an order of keys has
pub record IsOrder {X : Type 0} (before : X → X → Bool) : Type 0 where
  pub not_self : (x : X) → before x x ≡ false
  pub through : (x b p : X) → before x b ≡ true → before b p ≡ true → before x p ≡ true
  pub on : (x b p : X) → before x b ≡ true → before p b ≡ false → before x p ≡ true
  pub over : (x b p : X) → before x b ≡ false → before x p ≡ true → before b p ≡ true

pub by_id : IsOrder has_lesser_id
by_id = record {
  not_self = λ x. let z : (z : ℤ) → int_lt z z ≡ false = λ z. grind (arith, ints) in z x.id.0;
  through = λ x b p h k. let f : (x b p : ℤ) → int_lt x b ≡ true → int_lt b p ≡ true → int_lt x p ≡ true = λ x b p h k. grind (arith, ints) in f x.id.0 b.id.0 p.id.0 h k;
  on = λ x b p h k. let f : (x b p : ℤ) → int_lt x b ≡ true → int_lt p b ≡ false → int_lt x p ≡ true = λ x b p h k. grind (arith, ints) in f x.id.0 b.id.0 p.id.0 h k;
  over = λ x b p h k. let f : (x b p : ℤ) → int_lt x b ≡ false → int_lt x p ≡ true → int_lt b p ≡ true = λ x b p h k. grind (arith, ints) in f x.id.0 b.id.0 p.id.0 h k;
}

-- what one test implies it may be joined with
or_left : (a b c : Bool) → (a ≡ true → b ≡ true) → (a || (b || c)) ≡ (b || c)
or_left true b c k = sym (ap (λ x. x || c) (k refl))
or_left false b c k = refl

or_mid : (a b c : Bool) → (b ≡ true → a ≡ true) → (a || (b || c)) ≡ (a || c)
or_mid true b c k = refl
or_mid false true c k = let bad : false ≡ true = k refl in cc
or_mid false false c k = refl

or_true : (v : Bool) → (v || true) ≡ true
or_true true = refl
or_true false = refl

neither : (a c : Bool) → a ≡ false → not (a || c) ≡ false → c ≡ true
neither true c h k = let bad : true ≡ false = h in cc
neither false true h k = refl
neither false false h k = sym k

one : (a c : Bool) → c ≡ true → not (a || c) ≡ false
one a c h = ap (λ v. not (a || v)) h ∙ ap not (or_true a)

abbrev some_before : {X : Type 0} → (X → X → Bool) → X → List X → Bool
some_before before p xs = list_any (λ q. before q p) xs

-- what stands before the earlier one stands before the later one
before_more : {X : Type 0} (before : X → X → Bool) → IsOrder before → (b p : X) (xs : List X) → before p b ≡ false → some_before before b xs ≡ true → some_before before p xs ≡ true
before_more before o b p [] h k = k
before_more before o b p (q ∷ qs) h k =
    elim (before q b) as (λ v. before q b ≡ v → (v || some_before before b qs) ≡ true → (before q p || some_before before p qs) ≡ true) [
      | true ↦ λ e _. ap (λ v. v || some_before before p qs) (o.on q b p e h)
      | false ↦ λ e rest. ap (λ v. before q p || v) (before_more before o b p qs h rest) ∙ or_true (before q p)
    ] refl k

-- a choice between two, where the second fails if the first does
second_fails : {X : Type 0} (u v : Bool) (x y : Option X) (o : Option X) → (u ≡ false → v ≡ false) → cond u x (cond v y o) ≡ cond u x o
second_fails true v x y o k = refl
second_fails false v x y o k = ap (λ c. cond c y o) (k refl)

-- an element that doesn't stand before the first one is passed over
passed_over : {X : Type 0} (before : X → X → Bool) → IsOrder before → (b p : X) (xs : List X) → before p b ≡ false
    → find (is_first before (b ∷ xs)) (b ∷ p ∷ xs) ≡ find (is_first before (b ∷ xs)) (b ∷ xs)
passed_over before o b p xs h =
    second_fails (is_first before (b ∷ xs) b) (is_first before (b ∷ xs) p) (Some b) (Some p) (find (is_first before (b ∷ xs)) xs)
    (λ e. one (before b p) (some_before before p xs) (before_more before o b p xs h (neither (before b b) (some_before before b xs) (o.not_self b) e)))

first_next : {X : Type 0} (before : X → X → Bool) → IsOrder before → (b p : X) (xs : List X) (v : Bool) → before p b ≡ v → first_by before (cond v p b ∷ xs) ≡ first_by before (b ∷ p ∷ xs)
first_next before o b p xs true e =
    sym (ap (λ w. cond w (Some b) (find (is_first before (b ∷ p ∷ xs)) (p ∷ xs))) (one (before b b) (before p b || some_before before b xs) (ap (λ w. w || some_before before b xs) e))
    ∙ find_agree (is_first before (b ∷ p ∷ xs)) (is_first before (p ∷ xs))
    (λ x. ap not (or_left (before b x) (before p x) (some_before before x xs) (o.through p b x e))) (p ∷ xs))
first_next before o b p xs false e =
    sym (find_agree (is_first before (b ∷ p ∷ xs)) (is_first before (b ∷ xs))
    (λ x. ap not (or_mid (before b x) (before p x) (some_before before x xs) (o.over p b x e))) (b ∷ p ∷ xs)
    ∙ passed_over before o b p xs e)

-- one pass that keeps the better one finds the first before which no other stands
best_of_some : {X : Type 0} (before : X → X → Bool) → IsOrder before → (b : X) (xs : List X) → best_from before (Some b) xs ≡ first_by before (b ∷ xs)
best_of_some before o b [] = sym (ap (λ v. cond (not (v || false)) (Some b) None) (o.not_self b))
best_of_some before o b (p ∷ xs) = best_of_some before o (better before (Some b) p) xs ∙ first_next before o b p xs (before p b) refl

pub best_from_none : {X : Type 0} (before : X → X → Bool) → IsOrder before → (xs : List X) → best_from before None xs ≡ first_by before xs
best_from_none before o [] = refl
best_from_none before o (x ∷ xs) = best_of_some before o x xs

-- the best of two lists, one after the other
pub best_of_both : {X : Type 0} (before : X → X → Bool) (best : Option X) (xs ys : List X) → best_from before best (xs ++ ys) ≡ best_from before (best_from before best xs) ys
best_of_both before best [] ys = refl
best_of_both before best (x ∷ xs) ys = best_of_both before (Some (better before best x)) xs ys

-- ---- by the cell, then by the id

abbrev rank_before : ℕ → ℤ → ℕ → ℤ → Bool
rank_before n x m y = nat_lt n m || (eqb n m && int_lt x y)

rank_self : (n : ℕ) (x : ℤ) → rank_before n x n x ≡ false
rank_self n x = grind (arith, ints, nat_tests)

rank_through : (k m n : ℕ) (x b p : ℤ) → rank_before k x m b ≡ true → rank_before m b n p ≡ true → rank_before k x n p ≡ true
rank_through k m n x b p h i = grind (arith, ints, nat_tests)

rank_on : (k m n : ℕ) (x b p : ℤ) → rank_before k x m b ≡ true → rank_before n p m b ≡ false → rank_before k x n p ≡ true
rank_on k m n x b p h i = grind (arith, ints, nat_tests)

rank_over : (k m n : ℕ) (x b p : ℤ) → rank_before k x m b ≡ false → rank_before k x n p ≡ true → rank_before m b n p ≡ true
rank_over k m n x b p h i = grind (arith, ints, nat_tests)

pub by_rank : IsOrder ranks_before
by_rank = record {
  not_self = λ r. rank_self r.0 r.1.id.0;
  through = λ r s t h k. rank_through r.0 s.0 t.0 r.1.id.0 s.1.id.0 t.1.id.0 h k;
  on = λ r s t h k. rank_on r.0 s.0 t.0 r.1.id.0 s.1.id.0 t.1.id.0 h k;
  over = λ r s t h k. rank_over r.0 s.0 t.0 r.1.id.0 s.1.id.0 t.1.id.0 h k;
}

-- ---- choices: by the rank, then by the id of the policy, then by the place

abbrev place_before : ℕ → ℤ → ℕ → ℕ → ℤ → ℕ → Bool
place_before r x k s y m = nat_lt r s || (eqb r s && (int_lt x y || (int_eq x y && nat_lt k m)))

place_self : (r : ℕ) (x : ℤ) (k : ℕ) → place_before r x k r x k ≡ false
place_self r x k = grind (arith, ints, nat_tests)

place_through : (r s t : ℕ) (x y z : ℤ) (k m n : ℕ) → place_before r x k s y m ≡ true → place_before s y m t z n ≡ true → place_before r x k t z n ≡ true
place_through r s t x y z k m n h i = grind (arith, ints, nat_tests)

place_on : (r s t : ℕ) (x y z : ℤ) (k m n : ℕ) → place_before r x k s y m ≡ true → place_before t z n s y m ≡ false → place_before r x k t z n ≡ true
place_on r s t x y z k m n h i = grind (arith, ints, nat_tests)

place_over : (r s t : ℕ) (x y z : ℤ) (k m n : ℕ) → place_before r x k s y m ≡ false → place_before r x k t z n ≡ true → place_before s y m t z n ≡ true
place_over r s t x y z k m n h i = grind (arith, ints, nat_tests)

pub by_place : IsOrder goes_before
by_place = record {
  not_self = λ c. place_self (choice_rank c) c.policy.id.0 c.place;
  through = λ c d e h k. place_through (choice_rank c) (choice_rank d) (choice_rank e) c.policy.id.0 d.policy.id.0 e.policy.id.0 c.place d.place e.place h k;
  on = λ c d e h k. place_on (choice_rank c) (choice_rank d) (choice_rank e) c.policy.id.0 d.policy.id.0 e.policy.id.0 c.place d.place e.place h k;
  over = λ c d e h k. place_over (choice_rank c) (choice_rank d) (choice_rank e) c.policy.id.0 d.policy.id.0 e.policy.id.0 c.place d.place e.place h k;
}
