-- For proofs alone: a replay on its way.
use Rattle.std.specs.Prelude.{◌≡◌, ◌≤◌, ◌<◌, ◌==◌, ◌||◌, ℕ, Bool, true, false, List, length, drop, slice_get, Option, Some, None}
use Rattle.rg_cmd.specs.declared.config.Config.{Config}
use Rattle.rg_admin_laws.specs.Logs.{Administration}
use Rattle.rg_admin.specs.Starting.{start_fault}
use Rattle.rg_keep.specs.Replay.{after_entries, after_entry, first_bad_from, is_bad, most_kept}
use Rattle.rg_keep.specs.declared.reopen.ReopenCause.{ReopenCause}
use Rattle.rg_keep.specs.declared.reopen.ReopenCause.TheVariants.{Rule, BadRecord, Failed, NoMemory}

-- the entry at the place is a good one, and was taken
pub record IsTaken (entries : List (List ℕ)) (place : ℕ) (a b : Administration) : Type 0 where
  pub entry : List ℕ
  pub found : slice_get entries place ≡ Some entry
  pub within : (place == most_kept) ≡ false
  pub good : is_bad a entry ≡ false
  pub after : b ≡ after_entry a entry

-- there is one and it was taken, or there is none
abbrev pub Takes : Option (List (List ℕ)) → ℕ → Administration → Bool → Administration → Type 0
Takes None place a more b = Unit {0}
Takes (Some entries) place a true b = IsTaken entries place a b
Takes (Some entries) place a false b = (slice_get entries place ≡ None) × (b ≡ a)

-- the entry at the place is a bad one
pub record IsBadAt (entries : List (List ℕ)) (place : ℕ) (a : Administration) (named : ℕ) : Type 0 where
  pub entry : List ℕ
  pub found : slice_get entries place ≡ Some entry
  pub told : named ≡ place
  pub bad : (place == most_kept || is_bad a entry) ≡ true

abbrev pub IsStopped : Option (List (List ℕ)) → ℕ → Administration → ℕ → ℕ → ReopenCause → Type 0
IsStopped told place a faults_before faults (Rule rule) = ⊥
IsStopped None place a faults_before faults (BadRecord named) = Unit {0}
IsStopped (Some entries) place a faults_before faults (BadRecord named) = IsBadAt entries place a named
IsStopped told place a faults_before faults Failed = faults_before < faults
IsStopped told place a faults_before faults NoMemory = Unit {0}

-- what is left of the entries makes of this administration what they make of the first
pub record IsOnItsWay (entries : List (List ℕ)) (first : Administration) (place : ℕ) (a : Administration) : Type 0 where
  pub within : place ≤ length entries
  pub rest : after_entries a (drop place entries) ≡ after_entries first entries
  pub bad : first_bad_from a place (drop place entries) ≡ first_bad_from first 0 entries

abbrev pub IsPart : Option (List (List ℕ)) → Administration → ℕ → Administration → Type 0
IsPart None first place a = Unit {0}
IsPart (Some entries) first place a = IsOnItsWay entries first place a

-- all are good, and were taken
pub record IsWhole (entries : List (List ℕ)) (first : Administration) (n : ℕ) (a : Administration) : Type 0 where
  pub counts : n ≡ length entries
  pub after : a ≡ after_entries first entries
  pub good : first_bad_from first 0 entries ≡ None

abbrev pub IsReplaying : Option (List (List ℕ)) → Administration → ℕ → Administration → Type 0
IsReplaying None first n a = Unit {0}
IsReplaying (Some entries) first n a = IsWhole entries first n a

abbrev pub IsStoppedIn : Option (List (List ℕ)) → Administration → ℕ → ℕ → ReopenCause → Type 0
IsStoppedIn told first faults_before faults (Rule rule) = ⊥
IsStoppedIn None first faults_before faults (BadRecord named) = Unit {0}
IsStoppedIn (Some entries) first faults_before faults (BadRecord named) = first_bad_from first 0 entries ≡ Some named
IsStoppedIn told first faults_before faults Failed = faults_before < faults
IsStoppedIn told first faults_before faults NoMemory = Unit {0}

-- the configuration breaks a rule, or memory was refused
abbrev pub IsNoStart : Config → ReopenCause → Type 0
IsNoStart config (Rule rule) = start_fault config ≡ Some rule
IsNoStart config (BadRecord place) = ⊥
IsNoStart config Failed = ⊥
IsNoStart config NoMemory = Unit {0}
