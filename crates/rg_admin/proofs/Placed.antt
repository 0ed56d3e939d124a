-- For proofs alone: the places of names where a thing is put into a list.
use Rattle.std.proofs.Common.{◌≡◌, ◌<◌, ◌∷◌, ℕ, zero, suc, cond, List, [], Option, Some, None, IfSome, length, map, get_or, position, slice_get, slice_set, option_map, refl, ap, sym, ◌∙◌, subst}
use Rattle.std.specs.List.{find}
use Rattle.std.specs.Option.{option_and_then}
use Rattle.std.specs.Str.{bytes_eq}
use Rattle.std.proofs.lemmas.List.{length-map}
use Rattle.rg_base.specs.Places.{place_in}
use Rattle.rg_base.proofs.Names.{place_found}
use Rattle.rg_validate.proofs.Places.{found_at, place_is, place_of}

module _ {X : Type 0} (named : X → List ℕ) where
  there : (name : List ℕ) (xs : List X) → place_in (map named xs) name ≡ place_of (λ x. bytes_eq (named x) name) xs
  there name [] = refl
  there name (x ∷ xs) = ap (λ o. cond (bytes_eq (named x) name) (Some 0) (option_map suc o)) (there name xs)

  -- it is the first place of a thing of the name
  pub placed : (name : List ℕ) (xs : List X) → place_in (map named xs) name ≡ position (λ x. bytes_eq (named x) name) xs
  placed name xs = there name xs ∙ sym (place_is (λ x. bytes_eq (named x) name) xs)

  pub found : (name : List ℕ) (xs : List X) → find (λ x. bytes_eq (named x) name) xs ≡ option_and_then (slice_get xs) (position (λ x. bytes_eq (named x) name) xs)
  found name xs = found_at (λ x. bytes_eq (named x) name) xs

  pub within : (name : List ℕ) (xs : List X) (i : ℕ) → place_in (map named xs) name ≡ Some i → i < length xs
  within name xs i is = subst (λ n. i < n) (length-map xs named) (place_found (map named xs) name i is).0

  pub all_within : (name : List ℕ) (xs : List X) (o : Option ℕ) → o ≡ place_in (map named xs) name → IfSome o (λ i. i < length xs)
  all_within name xs None is = tt
  all_within name xs (Some i) is = within name xs i (sym is)

  -- the names stay where a thing takes the place of one of its name
  pub renamed : (x : X) (xs : List X) (i : ℕ) → place_in (map named xs) (named x) ≡ Some i → map named (slice_set xs i x) ≡ map named xs
  renamed x xs i is = go xs i (place_found (map named xs) (named x) i is).1
    where
      go : (xs : List X) (i : ℕ) → get_or (map named xs) i [] ≡ named x → map named (slice_set xs i x) ≡ map named xs
      go [] i same = refl
      go (y ∷ ys) zero same = ap (λ n. n ∷ map named ys) (sym same)
      go (y ∷ ys) (suc i) same = ap (λ ns. named y ∷ ns) (go ys i same)
