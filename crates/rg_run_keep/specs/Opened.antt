-- What contracts see of a kept administration that a script works.
use Rattle.std.specs.Prelude.{◌<◌, ℕ, List, Option, Some, None}
use Rattle.rg_cmd.specs.declared.config.Config.{Config}
use Rattle.rg_keep.specs.Keeping.{Desk}
use Rattle.rg_keep.specs.declared.reopen.ReopenCause.{ReopenCause}
use Rattle.rg_keep.specs.declared.reopen.ReopenCause.TheVariants.{Rule, BadRecord, Failed, NoMemory}

-- the configuration that it was opened with, and its desk
pub record Keeping (K : Type 0) : Type 0 where
  pub config : Config
  pub desk : Desk K

-- why it isn't reopened under that configuration: where the list is told, all of its records are good
abbrev pub IsLaterCause : ReopenCause → Option (List (List ℕ)) → ℕ → ℕ → Type 0
IsLaterCause (Rule rule) told faults_before faults = ⊥
IsLaterCause (BadRecord place) None faults_before faults = Unit {0}
IsLaterCause (BadRecord place) (Some records) faults_before faults = ⊥
IsLaterCause Failed told faults_before faults = faults_before < faults
IsLaterCause NoMemory told faults_before faults = Unit {0}
