-- For proofs alone: a list that is changed at one place.
use Rattle.std.specs.Prelude.{ℕ, List, [], ◌∷◌, ◌++◌, Option, Some, None, slice_set}
use Rattle.std.specs.List.{remove}

-- the item in the place of the one there, or at the end where no place is given
abbrev pub put_at : {X : Type 0} → Option ℕ → X → List X → List X
put_at None x xs = xs ++ x ∷ []
put_at (Some place) x xs = slice_set xs place x

-- all but the item at the place, where one is given
abbrev pub without_at : {X : Type 0} → Option ℕ → List X → List X
without_at None xs = xs
without_at (Some place) xs = remove xs place
