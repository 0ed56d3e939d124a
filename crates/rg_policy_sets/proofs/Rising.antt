-- Slots whose ordinals rise: which one has an ordinal.
use Rattle.std.proofs.Common.{◌≡◌, ◌<◌, ◌≤◌, ◌+◌, ◌++◌, ◌||◌, ◌&&◌, ℕ, zero, suc, ℤ, pos, true, false, not, cond, int_lt, List, [], ◌∷◌, Option, Some, None, Contains, length, get_or, map, take, option_map, option_to_list, inl, inr, refl, sym, ap, subst, ◌∙◌, arith}
use Rattle.std.proofs.lemmas.Int.{ints}
use Rattle.std.proofs.lemmas.Bool.{and_parts}
use Rattle.std.proofs.lemmas.Bool.Decides.{Decides-int_eq}
use Rattle.std.proofs.lemmas.List.{length-map, length-take-le, map-append}
use Rattle.std.specs.List.{AllWithin, find, slice_get}
use Rattle.std.specs.List.Sorted.{IsPartitionedBy}
use Rattle.std.specs.Ordering.{int_eq}
use Rattle.rg_base.proofs.Lists.{Contains-cases, Contains-none, list_any-map, take_next}
use Rattle.rg_index.specs.Changes.{ids_differ, same_id}
use Rattle.rg_index.specs.declared.form.Form.{Form}
use Rattle.rg_policy_sets.specs.Kept.{Placed, are_rising, held_at, held_in, is_held, placed_from, rise_above, slot_form, slot_forms}

-- ---- numbers

pub less_trans : (a b c : ℤ) → int_lt a b ≡ true → int_lt b c ≡ true → int_lt a c ≡ true
less_trans a b c h k = grind (arith, ints)

less_not_same : (a b : ℤ) → int_lt a b ≡ true → int_eq b a ≡ false
less_not_same a b h = grind (arith, ints)

above_not_same : (a b c : ℤ) → int_lt a b ≡ true → int_lt a c ≡ false → int_eq b c ≡ false
above_not_same a b c h k = grind (arith, ints)

pub below_not_same : (a b : ℤ) → int_lt a b ≡ true → int_eq a b ≡ false
below_not_same a b h = grind (arith, ints)

above_not_below : (a b c : ℤ) → int_lt a b ≡ true → int_lt a c ≡ false → int_lt b c ≡ false
above_not_below a b c h k = grind (arith, ints)

pub less_self : (a : ℤ) → int_lt a a ≡ false
less_self a = grind (arith, ints)

same_self : (a : ℤ) → int_eq a a ≡ true
same_self a = grind (arith, ints)

-- ---- slots whose ordinals are above one

module _ {X : Type 0} where
  -- they are the rising slots of a list
  pub rest_rises : (least : ℤ) (slots : List (Placed X)) → rise_above (Some least) slots ≡ true → are_rising slots ≡ true
  rest_rises least [] up = refl
  rest_rises least (s ∷ slots) up = (and_parts (int_lt least s.ordinal) _ up).1

  pub above_all : (least : ℤ) (slots : List (Placed X)) → rise_above (Some least) slots ≡ true → (s : Placed X) → Contains slots s → int_lt least s.ordinal ≡ true
  above_all least [] up s there = absurd (Contains-none s there)
  above_all least (t ∷ slots) up s there =
      let p = and_parts (int_lt least t.ordinal) _ up in
      elim (Contains-cases t slots s there) [
        | inl same ↦ subst (λ (r : Placed X). int_lt least r.ordinal ≡ true) same p.0
        | inr on ↦ less_trans least t.ordinal s.ordinal p.0 (above_all t.ordinal slots p.1 s on)
      ]

  -- none of them has an ordinal that isn't above it
  pub none_at : (least x : ℤ) (slots : List (Placed X)) → int_lt least x ≡ false → rise_above (Some least) slots ≡ true → is_held slots x ≡ false
  none_at least x [] low up = refl
  none_at least x (s ∷ slots) low up =
      let p = and_parts (int_lt least s.ordinal) _ up in
      ap (λ b. b || is_held slots x) (above_not_same least s.ordinal x p.0 low) ∙ none_at s.ordinal x slots (above_not_below least s.ordinal x p.0 low) p.1

  pub none_found : (least x : ℤ) (slots : List (Placed X)) → int_lt least x ≡ false → rise_above (Some least) slots ≡ true → find (λ (s : Placed X). int_eq s.ordinal x) slots ≡ None
  none_found least x [] low up = refl
  none_found least x (s ∷ slots) low up =
      let p = and_parts (int_lt least s.ordinal) _ up in
      ap (λ b. cond b (Some s) (find (λ (s : Placed X). int_eq s.ordinal x) slots)) (above_not_same least s.ordinal x p.0 low)
      ∙ none_found s.ordinal x slots (above_not_below least s.ordinal x p.0 low) p.1

  -- ---- the place of an ordinal

  below_later : (least x : ℤ) (slots : List (Placed X)) → rise_above (Some least) slots ≡ true → (j : ℕ) (d : Placed X) → j < length slots → int_lt (get_or slots j d).ordinal x ≡ true → int_lt least x ≡ true
  below_later least x [] up j d l t = absurd (omega arith)
  below_later least x (s ∷ slots) up zero d l t = less_trans least s.ordinal x (and_parts (int_lt least s.ordinal) _ up).0 t
  below_later least x (s ∷ slots) up (suc j) d l t =
      let p = and_parts (int_lt least s.ordinal) _ up in
      less_trans least s.ordinal x p.0 (below_later s.ordinal x slots p.1 j d (omega arith) t)

  pub partitioned : (x : ℤ) (slots : List (Placed X)) → are_rising slots ≡ true → IsPartitionedBy (λ (s : Placed X). int_lt s.ordinal x) slots
  partitioned x [] up i j d b l t = absurd (omega arith)
  partitioned x (s ∷ slots) up zero zero d b l t = t
  partitioned x (s ∷ slots) up zero (suc j) d b l t = below_later s.ordinal x slots up j d (omega arith) t
  partitioned x (s ∷ slots) up (suc i) zero d b l t = absurd (omega arith)
  partitioned x (s ∷ slots) up (suc i) (suc j) d b l t = partitioned x slots (rest_rises s.ordinal slots up) i j d (omega arith) (omega arith) t

  pub found_at : (x : ℤ) (slots : List (Placed X)) (i : ℕ) → are_rising slots ≡ true → i ≤ length slots
      → AllWithin (λ (s : Placed X). int_lt s.ordinal x ≡ true) slots 0 i → AllWithin (λ (s : Placed X). int_lt s.ordinal x ≡ false) slots i (length slots)
      → find (λ (s : Placed X). int_eq s.ordinal x) slots ≡ find (λ (s : Placed X). int_eq s.ordinal x) (option_to_list (slice_get slots i))
  found_at x [] i up l low high = refl
  found_at x (s ∷ slots) zero up l low high =
      ap (λ (o : Option (Placed X)). cond (int_eq s.ordinal x) (Some s) o) (none_found s.ordinal x slots (high 0 s (omega arith) (omega arith)) up)
  found_at x (s ∷ slots) (suc i) up l low high =
      ap (λ b. cond b (Some s) (find (λ (s : Placed X). int_eq s.ordinal x) slots)) (below_not_same s.ordinal x (low 0 s (omega arith) (omega arith)))
      ∙ found_at x slots i (rest_rises s.ordinal slots up) (omega arith) (λ k d b m. low (suc k) d (omega arith) (omega arith)) (λ k d b m. high (suc k) d (omega arith) (omega arith))

  -- ---- each slot is the one of its ordinal

  pub is_found : (slots : List (Placed X)) → are_rising slots ≡ true → (s : Placed X) → Contains slots s → find (λ (t : Placed X). int_eq t.ordinal s.ordinal) slots ≡ Some s
  is_found [] up s there = absurd (Contains-none s there)
  is_found (t ∷ slots) up s there =
      elim (Contains-cases t slots s there) [
        | inl same ↦
            ap (λ b. cond b (Some t) (find (λ (t : Placed X). int_eq t.ordinal s.ordinal) slots)) (ap (λ (r : Placed X). int_eq r.ordinal s.ordinal) same ∙ same_self s.ordinal) ∙ ap Some same
        | inr on ↦
            ap (λ b. cond b (Some t) (find (λ (t : Placed X). int_eq t.ordinal s.ordinal) slots)) (below_not_same t.ordinal s.ordinal (above_all t.ordinal slots up s on))
            ∙ is_found slots (rest_rises t.ordinal slots up) s on
      ]

  pub holds_it : (slots : List (Placed X)) → are_rising slots ≡ true → (s : Placed X) → Contains slots s → held_at slots s.ordinal ≡ Some s.held
  holds_it slots up s there = ap (option_map (λ (s : Placed X). s.held)) (is_found slots up s there)

  -- ---- slots that are counted

  counted_rise : (low n : ℕ) (xs : List X) → low < n → rise_above (Some (pos low)) (placed_from n xs) ≡ true
  counted_rise low n [] l = refl
  counted_rise low n (x ∷ xs) l =
      let up : int_lt (pos low) (pos n) ≡ true = grind arith in
      ap (λ b. b && rise_above (Some (pos n)) (placed_from (n + 1) xs)) up ∙ counted_rise n (n + 1) xs (omega arith)

  pub placed_rise : (n : ℕ) (xs : List X) → are_rising (placed_from n xs) ≡ true
  placed_rise n [] = refl
  placed_rise n (x ∷ xs) = counted_rise n (n + 1) xs (omega arith)

  pub placed_held : (n : ℕ) (xs : List X) → held_in (placed_from n xs) ≡ xs
  placed_held n [] = refl
  placed_held n (x ∷ xs) = ap (λ ys. x ∷ ys) (placed_held (n + 1) xs)

  pub placed_push : (n : ℕ) (xs : List X) (x : X) → placed_from n (xs ++ x ∷ []) ≡ placed_from n xs ++ record { ordinal = pos (n + length xs); held = x } ∷ []
  placed_push n [] x = let none : List X = [] in let e : n ≡ n + length none = omega arith in ap (λ (m : ℕ). (let s : Placed X = record { ordinal = pos m; held = x } in s) ∷ []) e
  placed_push n (y ∷ xs) x =
      let e : n + 1 + length xs ≡ n + length (y ∷ xs) = omega arith in
      ap (λ ys. (let s : Placed X = record { ordinal = pos n; held = y } in s) ∷ ys)
      (placed_push (n + 1) xs x ∙ ap (λ (m : ℕ). placed_from (n + 1) xs ++ (let s : Placed X = record { ordinal = pos m; held = x } in s) ∷ []) e)

  -- one more slot
  pub placed_more : {Y : Type 0} (f : Y → X) (ys : List Y) (slots : List (Placed X)) (i : ℕ) (y : Y) (s : Placed X) → slots ≡ placed_from 0 (map f (take i ys))
      → s ≡ (let s : Placed X = record { ordinal = pos i; held = f y } in s) → i < length ys → y ≡ get_or ys i y → slots ++ s ∷ [] ≡ placed_from 0 (map f (take (i + 1) ys))
  placed_more f ys slots i y s so e l is =
      let taken = length-take-le i ys (omega arith) in
      let mapped = length-map (take i ys) f in
      let last : 0 + length (map f (take i ys)) ≡ i = omega (arith, taken, mapped) in
      (λ k. so k ++ e k ∷ [])
      ∙ ap (λ (n : ℕ). placed_from 0 (map f (take i ys)) ++ (let s : Placed X = record { ordinal = pos n; held = f y } in s) ∷ []) (sym last)
      ∙ sym (placed_push 0 (map f (take i ys)) (f y))
      ∙ ap (placed_from 0) (sym (map-append f (take i ys) (y ∷ [])) ∙ ap (map f) (sym (take_next i ys y l is)))

  -- no two slots have one ordinal
  pub forms_differ : (form : X → Form) (slots : List (Placed X)) → are_rising slots ≡ true → ids_differ (slot_forms form slots) ≡ true
  forms_differ form [] up = refl
  forms_differ form (s ∷ slots) up =
      let none = list_any-map (same_id (slot_form form s)) (slot_form form) slots ∙ none_at s.ordinal s.ordinal slots (less_self s.ordinal) up in
      ap (λ b. not b && ids_differ (slot_forms form slots)) none ∙ forms_differ form slots (rest_rises s.ordinal slots up)

pub same_ordinal : (a b : ℤ) → a ≡ b → int_eq a b ≡ true
same_ordinal a b e = ap (λ (c : ℤ). int_eq a c) (sym e) ∙ same_self a

pub same_number : (a b : ℤ) → int_eq a b ≡ true → a ≡ b
same_number a b = (Decides-int_eq a b).0
