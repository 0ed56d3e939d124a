-- How the program ends.
use Rattle.std.specs.Prelude.{◌≡◌, ◌≢◌, ◌⊎◌, ℕ, Option, Some, None}
use Rattle.rg_run_script.specs.declared.status.Status.{Status}
use Rattle.rg_run_script.specs.declared.status.Status.TheVariants.{Usage}
use Rattle.rg_run_script.specs.Statuses.{number_of}
use Rattle.rg_run_kept.specs.Words.{Wanted}

-- with the number of a status, which is that of wrong words just where they ask for nothing
abbrev pub IsEnd : Option Wanted → ℕ → Type 0
IsEnd None n = n ≡ number_of Usage
IsEnd (Some wanted) n = (status : Status) × (status ≢ Usage) × (n ≡ number_of status)
