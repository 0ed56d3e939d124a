-- What a reopened administration and one that isn't say of the keeper's list.
use Rattle.std.proofs.Common.{◌≡◌, ℕ, List, Option, Some, None, subst}
use Rattle.rg_cmd.specs.declared.config.Config.{Config}
use Rattle.rg_keep.specs.Logs.{Administration}
use Rattle.rg_keep.specs.Starting.{start_fault}
use Rattle.rg_keep.specs.Keeping.{IsCause, IsKept, IsReplayed, Reopens}
use Rattle.rg_keep.specs.declared.reopen.ReopenCause.{ReopenCause}
use Rattle.rg_keep.specs.declared.reopen.ReopenCause.TheVariants.{Rule, BadRecord, Failed, NoMemory}
use Rattle.rg_run_keep.specs.Opened.{IsLaterCause}

-- the list is told as it was before
pub replayed_before : (told new : Option (List (List ℕ))) (config : Config) (a : Administration) → new ≡ told → IsReplayed new config a → IsReplayed told config a
replayed_before told new config a same is = subst (λ o. IsReplayed o config a) same is

kept_reopens : (told : Option (List (List ℕ))) (config : Config) (a : Administration) → IsKept told config a → Reopens told config
kept_reopens None config a is = tt
kept_reopens (Some records) config a is = (is.lawful, is.good)

pub reopens_before : (told new : Option (List (List ℕ))) (config : Config) (a : Administration) → new ≡ told → IsKept new config a → Reopens told config
reopens_before told new config a same is = kept_reopens told config a (subst (λ o. IsKept o config a) same is)

-- a list that was opened is opened again, but for a keeper that fails and memory that is refused
pub later_cause : (cause : ReopenCause) (told : Option (List (List ℕ))) (config : Config) (a : Administration) (before now : ℕ) → start_fault config ≡ None → IsKept told config a → IsCause cause told config before now
    → IsLaterCause cause told before now
later_cause (Rule rule) told config a before now lawful is cause = absurd (cc (lawful, cause))
later_cause (BadRecord place) None config a before now lawful is cause = tt
later_cause (BadRecord place) (Some records) config a before now lawful is cause = absurd (cc (is.good, cause.1))
later_cause Failed told config a before now lawful is cause = cause
later_cause NoMemory told config a before now lawful is cause = tt

pub ruleset opening = (replayed_before, reopens_before)

pub ruleset later = (later_cause)
