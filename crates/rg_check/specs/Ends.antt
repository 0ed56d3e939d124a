-- How a check ends.
use Rattle.std.specs.Prelude.{◌≡◌, ℕ, Option, Some, None}
use Rattle.rg_run_script.specs.Ports.{Ports}
use Rattle.rg_run_script.specs.Runs.{IsRun, OfStatus, Stands}
use Rattle.rg_check.specs.declared.command.Command.{Command}
use Rattle.rg_check.specs.Checking.{checked}

-- the number is that of some check of a script of the command, or of words that ask for none
abbrev pub IsEndOf : Option Command → ℕ → Type 0
IsEndOf (Some command) n = (p : Ports) × (q : Ports) × OfStatus n (IsRun (Stands _ (checked command)) p q)
IsEndOf None n = n ≡ 1
