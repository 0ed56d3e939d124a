-- What is put into a list, and what is taken from it.
use Rattle.std.specs.Prelude.{Bool, not, List, [], ◌∷◌, ◌++◌, map, filter, if◌then◌else◌}
use Rattle.std.specs.List.{list_any}

-- the new one in the place of each that is the same, else at the end
abbrev pub put : {X : Type 0} → (X → Bool) → X → List X → List X
put same x xs = if list_any same xs then map (λ y. if same y then x else y) xs else xs ++ x ∷ []

-- all but those that are the same
abbrev pub without : {X : Type 0} → (X → Bool) → List X → List X
without same xs = filter (λ y. not (same y)) xs
