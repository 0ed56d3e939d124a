-- What an accepted command does to a log.
use Rattle.std.specs.Prelude.{ℕ, ◌<◌}
use Rattle.rg_delta.specs.Logs.{Book, noted, restarted}
use Rattle.rg_delta.specs.declared.touch.Touch.{Touch}
use Rattle.rg_delta.specs.declared.touch.Touch.TheVariants.{Leaves, Notes, Restarts}

abbrev pub touched : {C : Type 0} → Touch C → Book C → Book C
touched Leaves b = b
touched (Notes change) b = noted change b
touched Restarts b = restarted b

-- there is room for it
abbrev pub IsReady : {C : Type 0} → Touch C → ℕ → Type 0
IsReady Leaves spare = Unit {0}
IsReady (Notes change) spare = 0 < spare
IsReady Restarts spare = Unit {0}
