-- Tests and functions that agree on what a list contains.
use Rattle.std.proofs.Common.{◌≡◌, ◌&&◌, ◌||◌, ◌+◌, Bool, not, cond, nat_lt, List, [], ◌∷◌, length, map, Some, None, Contains, position, refl, ap, ◌++◌}
use Rattle.std.specs.List.{flat_map, list_all, list_any, prefix_len}
use Rattle.rg_base.proofs.Lists.{Contains-first, Contains-later}

module _ {X : Type 0} (p q : X → Bool) where
  pub any_agree : (xs : List X) → ((x : X) → Contains xs x → p x ≡ q x) → list_any p xs ≡ list_any q xs
  any_agree [] e = refl
  any_agree (x ∷ xs) e = let rest = any_agree xs (λ y there. e y (Contains-later x xs y there)) in λ i. e x (Contains-first x xs) i || rest i

  pub all_agree : (xs : List X) → ((x : X) → Contains xs x → p x ≡ q x) → list_all p xs ≡ list_all q xs
  all_agree [] e = refl
  all_agree (x ∷ xs) e = let rest = all_agree xs (λ y there. e y (Contains-later x xs y there)) in λ i. e x (Contains-first x xs) i && rest i

  prefix_agree : (xs : List X) → ((x : X) → Contains xs x → p x ≡ q x) → prefix_len (λ x. not (p x)) xs ≡ prefix_len (λ x. not (q x)) xs
  prefix_agree [] e = refl
  prefix_agree (x ∷ xs) e = let rest = prefix_agree xs (λ y there. e y (Contains-later x xs y there)) in λ i. cond (not (e x (Contains-first x xs) i)) (1 + rest i) 0

  pub position_agree : (xs : List X) → ((x : X) → Contains xs x → p x ≡ q x) → position p xs ≡ position q xs
  position_agree xs e = let same = prefix_agree xs e in λ i. cond (nat_lt (same i) (length xs)) (Some (same i)) None

module _ {X Y : Type 0} where
  pub map_agree : (f g : X → Y) (xs : List X) → ((x : X) → f x ≡ g x) → map f xs ≡ map g xs
  map_agree f g [] e = refl
  map_agree f g (x ∷ xs) e = λ i. e x i ∷ map_agree f g xs e i

pub flat_map_of : {X Y Z : Type 0} (f : Y → List Z) (g : X → Y) (xs : List X) → flat_map (λ x. f (g x)) xs ≡ flat_map f (map g xs)
flat_map_of f g [] = refl
flat_map_of f g (x ∷ xs) = ap (λ ys. f (g x) ++ ys) (flat_map_of f g xs)
