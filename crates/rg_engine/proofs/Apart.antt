-- Lists of which no two elements are the same, and sums over them.
use Rattle.std.proofs.Common.{◌≡◌, ◌+◌, ◌++◌, ◌||◌, ℕ, Bool, true, false, not, List, [], ◌∷◌, Contains, inl, inr, cond, refl, sym, ap, ◌∙◌, arith}
use Rattle.std.proofs.lemmas.Bool.{and_parts, and_from}
use Rattle.std.proofs.lemmas.List.Concat.{flat_map-cons}
use Rattle.std.proofs.lemmas.List.Sums.{sum_by-append, sum_by-cons}
use Rattle.std.specs.List.{filter, flat_map, list_any, sum_by}
use Rattle.rg_base.specs.Texts.{all_distinct}
use Rattle.rg_base.proofs.Lists.{Contains-cases, Contains-first, Contains-later, Contains-none, any_from}

none_passes : {X : Type 0} (p : X → Bool) (xs : List X) → not (list_any p xs) ≡ true → (x : X) → Contains xs x → p x ≡ true → ⊥
none_passes p xs h x there passes = let bad : false ≡ true = sym (ap not (any_from p xs x there passes)) ∙ h in cc

-- elements of which the one is the same as the other, and the other way round, are one
pub same_is_one : {X : Type 0} (same : X → X → Bool) (xs : List X) → all_distinct same xs ≡ true → (x y : X) → Contains xs x → Contains xs y → same x y ≡ true → same y x ≡ true → x ≡ y
same_is_one same [] h x y i j e f = absurd (Contains-none x i)
same_is_one same (z ∷ zs) h x y i j e f =
    let both = and_parts (not (list_any (same z) zs)) (all_distinct same zs) h in
    elim (Contains-cases z zs x i) [
      | inl first ↦ elim (Contains-cases z zs y j) [
        | inl other ↦ sym first ∙ other
        | inr later ↦ absurd (none_passes (same z) zs both.0 y later (ap (λ w. same w y) first ∙ e))
      ]
      | inr later ↦ elim (Contains-cases z zs y j) [
        | inl other ↦ absurd (none_passes (same z) zs both.0 x later (ap (λ w. same w x) other ∙ f))
        | inr last ↦ same_is_one same zs both.1 x y later last e f
      ]
    ]

none_before : {X : Type 0} (p : X → Bool) (xs ys : List X) → not (list_any p (xs ++ ys)) ≡ true → not (list_any p xs) ≡ true
none_before p [] ys h = refl
none_before p (x ∷ xs) ys h = elim (p x) as (λ b. not (b || list_any p (xs ++ ys)) ≡ true → not (b || list_any p xs) ≡ true) [ true ↦ λ no. no | false ↦ none_before p xs ys ] h

-- no two of either part are the same
pub parts_apart : {X : Type 0} (same : X → X → Bool) (xs ys : List X) → all_distinct same (xs ++ ys) ≡ true → (all_distinct same xs ≡ true) × (all_distinct same ys ≡ true)
parts_apart same [] ys h = (refl, h)
parts_apart same (x ∷ xs) ys h =
    let both = and_parts (not (list_any (same x) (xs ++ ys))) (all_distinct same (xs ++ ys)) h in
    let rest = parts_apart same xs ys both.1 in
    (and_from (not (list_any (same x) xs)) (all_distinct same xs) (none_before (same x) xs ys both.0) rest.0, rest.1)

-- a sum over what is made of each element is the sum of sums
pub sum_of_all : {X Y : Type 0} (f : Y → ℕ) (made : X → List Y) (xs : List X) → sum_by f (flat_map made xs) ≡ sum_by (λ x. sum_by f (made x)) xs
sum_of_all f made [] = refl
sum_of_all f made (x ∷ xs) =
    ap (sum_by f) (flat_map-cons made x xs) ∙ sum_by-append f (made x) (flat_map made xs)
    ∙ ap (λ n. sum_by f (made x) + n) (sum_of_all f made xs) ∙ sym (sum_by-cons (λ x. sum_by f (made x)) x xs)

-- a sum over those that pass
pub sum_of_some : {X : Type 0} (f : X → ℕ) (p : X → Bool) (xs : List X) → sum_by f (filter p xs) ≡ sum_by (λ x. cond (p x) (f x) 0) xs
sum_of_some f p [] = refl
sum_of_some f p (x ∷ xs) = elim (p x) as (λ b. sum_by f (cond b (x ∷ filter p xs) (filter p xs)) ≡ cond b (f x) 0 + sum_by (λ y. cond (p y) (f y) 0) xs) [
  | true ↦ sum_by-cons f x (filter p xs) ∙ ap (λ n. f x + n) (sum_of_some f p xs)
  | false ↦ (let rest = sum_of_some f p xs in let none : sum_by f (filter p xs) ≡ 0 + sum_by (λ y. cond (p y) (f y) 0) xs = omega (arith, rest) in none)
] ∙ sym (sum_by-cons (λ y. cond (p y) (f y) 0) x xs)

-- sums of what is the same for each element are the same
pub sum_alike : {X : Type 0} (f g : X → ℕ) (xs : List X) → ((x : X) → Contains xs x → f x ≡ g x) → sum_by f xs ≡ sum_by g xs
sum_alike f g [] same = refl
sum_alike f g (x ∷ xs) same =
    sum_by-cons f x xs
    ∙ (λ i. same x (Contains-first x xs) i + sum_alike f g xs (λ y there. same y (Contains-later x xs y there)) i)
    ∙ sym (sum_by-cons g x xs)
