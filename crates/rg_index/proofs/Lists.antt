-- Lists that are made of others, and sums over them.
use Rattle.std.proofs.Common.{◌≡◌, ◌+◌, ◌++◌, ℕ, Bool, true, false, cond, List, [], ◌∷◌, Some, Contains, map, refl, sym, ap, ◌∙◌, arith, option_map}
use Rattle.std.proofs.lemmas.List.Sums.{sum_by-cons}
use Rattle.std.specs.List.{find, flat_map, sum_by}
use Rattle.rg_base.proofs.Lists.{Contains-first, Contains-later}

pub flat_map_agree : {X Y : Type 0} (f g : X → List Y) → ((x : X) → f x ≡ g x) → (xs : List X) → flat_map f xs ≡ flat_map g xs
flat_map_agree f g e [] = refl
flat_map_agree f g e (x ∷ xs) = λ i. e x i ++ flat_map_agree f g e xs i

pub map_agree : {X Y : Type 0} (f g : X → Y) (xs : List X) → ((x : X) → Contains xs x → f x ≡ g x) → map f xs ≡ map g xs
map_agree f g [] e = refl
map_agree f g (x ∷ xs) e = λ i. e x (Contains-first x xs) i ∷ map_agree f g xs (λ y h. e y (Contains-later x xs y h)) i

pub map_twice : {X Y Z : Type 0} (g : Y → Z) (f : X → Y) (xs : List X) → map g (map f xs) ≡ map (λ x. g (f x)) xs
map_twice g f [] = refl
map_twice g f (x ∷ xs) = ap (λ ys. g (f x) ∷ ys) (map_twice g f xs)

pub sum_agree : {X : Type 0} (f g : X → ℕ) (xs : List X) → ((x : X) → Contains xs x → f x ≡ g x) → sum_by f xs ≡ sum_by g xs
sum_agree f g [] e = refl
sum_agree f g (x ∷ xs) e =
    sum_by-cons f x xs ∙ (λ i. e x (Contains-first x xs) i + sum_agree f g xs (λ y h. e y (Contains-later x xs y h)) i) ∙ sym (sum_by-cons g x xs)

pub sum_add : {X : Type 0} (f g : X → ℕ) (xs : List X) → sum_by (λ x. f x + g x) xs ≡ sum_by f xs + sum_by g xs
sum_add f g [] = refl
sum_add f g (x ∷ xs) =
    let rest = sum_add f g xs in
    let left = sum_by-cons f x xs in
    let right = sum_by-cons g x xs in
    sum_by-cons (λ x. f x + g x) x xs ∙ let joined : (f x + g x) + sum_by (λ x. f x + g x) xs ≡ sum_by f (x ∷ xs) + sum_by g (x ∷ xs) = omega (arith, rest, left, right) in joined

pub sum_none : {X : Type 0} (xs : List X) → sum_by (λ x. 0) xs ≡ 0
sum_none [] = refl
sum_none (x ∷ xs) = sum_by-cons (λ x. 0) x xs ∙ let rest = sum_none xs in let done : 0 + sum_by (λ x. 0) xs ≡ 0 = omega (arith, rest) in done

pub find_mapped : {X Y : Type 0} (p : Y → Bool) (f : X → Y) (xs : List X) → find p (map f xs) ≡ option_map f (find (λ x. p (f x)) xs)
find_mapped p f [] = refl
find_mapped p f (x ∷ xs) = elim (p (f x)) as (λ b. cond b (Some (f x)) (find p (map f xs)) ≡ option_map f (cond b (Some x) (find (λ x. p (f x)) xs))) [
  | true ↦ refl
  | false ↦ find_mapped p f xs
]
