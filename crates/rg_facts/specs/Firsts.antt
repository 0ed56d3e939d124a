-- The first of a list, by an order or by being there.
use Rattle.std.specs.Prelude.{Bool, not, List, [], ◌∷◌, Option, None}
use Rattle.std.specs.List.{find, list_any}
use Rattle.std.specs.Option.{option_or}

-- nothing of the list stands before x
abbrev pub is_first : {X : Type 0} → (X → X → Bool) → List X → X → Bool
is_first before xs x = not (list_any (λ y. before y x) xs)

-- the first element before which no other stands
abbrev pub first_by : {X : Type 0} → (X → X → Bool) → List X → Option X
first_by before xs = find (is_first before xs) xs

-- the first that there is
abbrev pub first_some : {X : Type 0} → List (Option X) → Option X
first_some [] = None
first_some (o ∷ os) = option_or o (first_some os)
