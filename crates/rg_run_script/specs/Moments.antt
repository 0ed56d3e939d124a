-- What a clock gave in a run.
use Rattle.std.specs.Prelude.{◌≡◌, List, ◌++◌, Option, Some, None}
use Rattle.rg_base.specs.declared.numbers.Moment.{Moment}

-- the clock gave these moments, where it tells
abbrev pub Gave : Option (List Moment) → Option (List Moment) → List Moment → Type 0
Gave None new moments = new ≡ None
Gave (Some old) new moments = new ≡ Some (old ++ moments)
