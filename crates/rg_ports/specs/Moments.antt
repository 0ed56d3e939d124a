-- The moments that a clock gives.
use Rattle.std.specs.Prelude.{◌≡◌, List, [], ◌∷◌, ◌++◌, Option, Some, None}
use Rattle.rg_base.specs.declared.numbers.Moment.{Moment}

-- this moment was given behind those before; a clock that tells none goes on telling none
abbrev pub Told : Option (List Moment) → Option (List Moment) → Moment → Type 0
Told None given moment = given ≡ None
Told (Some moments) given moment = given ≡ Some (moments ++ moment ∷ [])
