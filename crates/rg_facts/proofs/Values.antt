-- The named values, as they are gone over.
use Rattle.std.proofs.Common.{◌≡◌, ◌++◌, ◌-◌, ℕ, Bool, true, false, cond, List, [], ◌∷◌, Option, Some, None, length, map, option_map, slice_get, unwrap_or, refl, ap, ◌∙◌, append_assoc, arith}
use Rattle.std.specs.List.{cons_option, find, join_with_byte, last_or}
use Rattle.std.specs.Option.{option_or}
use Rattle.rg_base.specs.Listed.{Listed, listed}
use Rattle.rg_facts.specs.Joining.{after_value}

-- a text with the values that are to come
abbrev pub with_later : Option (List ℕ) → List (List ℕ) → List ℕ
with_later None vs = join_with_byte 47 vs
with_later (Some t) [] = t
with_later (Some t) (v ∷ vs) = t ++ 47 ∷ join_with_byte 47 (v ∷ vs)

pub later_value : (text : Option (List ℕ)) (o : Option (List ℕ)) (vs : List (List ℕ)) → with_later (after_value text o) vs ≡ with_later text (cons_option o vs)
later_value None None vs = refl
later_value (Some t) None vs = refl
later_value None (Some v) [] = refl
later_value None (Some v) (w ∷ vs) = refl
later_value (Some t) (Some v) [] = refl
later_value (Some t) (Some v) (w ∷ vs) = append_assoc t (47 ∷ v) (47 ∷ join_with_byte 47 (w ∷ vs))

-- nothing is to come
pub none_later : (text : Option (List ℕ)) → with_later text [] ≡ unwrap_or text []
none_later None = refl
none_later (Some t) = refl

pub later_last : {X : Type 0} (o last : Option X) (xs : List X) → last_or (option_or o last) xs ≡ last_or last (cons_option o xs)
later_last None last xs = refl
later_last (Some x) last xs = refl

last_of_more : {X : Type 0} (x : X) (xs : List X) → slice_get (x ∷ xs) (length xs) ≡ last_or (Some x) xs
last_of_more x [] = refl
last_of_more x (y ∷ ys) = last_of_more y ys

pub last_mapped : {X Y : Type 0} (f : X → Y) (o : Option X) (xs : List X) → option_map f (last_or o xs) ≡ last_or (option_map f o) (map f xs)
last_mapped f o [] = refl
last_mapped f o (x ∷ xs) = last_mapped f (Some x) xs

pub last_is_last : {X : Type 0} (xs : List X) → slice_get xs (length xs - 1) ≡ last_or None xs
last_is_last [] = refl
last_is_last (x ∷ xs) = let e : length (x ∷ xs) - 1 ≡ length xs = omega arith in ap (slice_get (x ∷ xs)) e ∙ last_of_more x xs

pub found_listed : (test : List ℕ → Bool) (ps : List (List ℕ)) → option_map (λ (p : Listed ℕ). p.items) (find (λ (p : Listed ℕ). test p.items) (map listed ps)) ≡ find test ps
found_listed test [] = refl
found_listed test (p ∷ ps) = elim (test p) as (λ b. option_map (λ (q : Listed ℕ). q.items) (cond b (Some (listed p)) (find (λ (q : Listed ℕ). test q.items) (map listed ps))) ≡ cond b (Some p) (find test ps)) [ true ↦ refl | false ↦ found_listed test ps ]
