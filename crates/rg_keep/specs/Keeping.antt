-- What stands between a kept administration and its keeper's list.
use Rattle.std.specs.Prelude.{◌≡◌, ◌+◌, ◌≤◌, ◌<◌, ◌==◌, ◌&&◌, not, ℕ, Bool, true, false, List, [], ◌∷◌, ◌++◌, length, Option, Some, None}
use Rattle.rg_cmd.specs.declared.ask.Ask.{Ask}
use Rattle.rg_cmd.specs.declared.config.Config.{Config}
use Rattle.rg_admin_laws.specs.Logs.{Administration}
use Rattle.rg_admin_laws.specs.Starts.{IsStart}
use Rattle.rg_admin.specs.Starting.{start_fault, started}
use Rattle.rg_ask_wire.specs.Keeping.{is_keeping}
use Rattle.rg_keep.specs.Replay.{first_bad, is_kept, most_kept, replayed, stepped}
use Rattle.rg_keep.specs.declared.kept_admin.KeptReply.{KeptReply}
use Rattle.rg_keep.specs.declared.kept_admin.KeptReply.TheVariants.{Reply, Full}
use Rattle.rg_keep.specs.declared.reopen.ReopenCause.{ReopenCause}
use Rattle.rg_keep.specs.declared.reopen.ReopenCause.TheVariants.{Rule, BadRecord, Failed, NoMemory}

-- what contracts see: the administration, the keeper, and how many commands are kept
pub record Desk (K : Type 0) : Type 0 where
  pub admin : Administration
  pub keeper : K
  pub kept : ℕ

-- the number is the length of the list, where the keeper tells it
abbrev pub HasLength : Option (List (List ℕ)) → ℕ → Type 0
HasLength None n = Unit {0}
HasLength (Some entries) n = n ≡ length entries

-- and it is one that may be kept
pub record Counts (told : Option (List (List ℕ))) (n : ℕ) : Type 0 where
  pub counts : HasLength told n
  pub within : n ≤ most_kept

-- ---- agreement

-- the administration with this count of entries
abbrev pub with_count : ℕ → Administration → Administration
with_count n a = record a { state = record a.state { count = n } }

-- they are equal but for the count
unfoldable pub Agree : Administration → Administration → Type 0
Agree a b = b ≡ with_count b.state.count a

-- the configuration starts, the list has no bad record, and what it makes agrees with the administration
pub record IsKeptBy (config : Config) (entries : List (List ℕ)) (a : Administration) : Type 0 where
  pub starts : IsStart (started config)
  pub lawful : start_fault config ≡ None
  pub good : first_bad config entries ≡ None
  pub agrees : Agree (replayed config entries) a

-- so it is where the keeper tells its list
abbrev pub IsKept : Option (List (List ℕ)) → Config → Administration → Type 0
IsKept None config a = Unit {0}
IsKept (Some entries) config a = IsKeptBy config entries a

-- the list has no bad record, where it is told: it is reopened
abbrev pub Reopens : Option (List (List ℕ)) → Config → Type 0
Reopens None config = Unit {0}
Reopens (Some entries) config = (start_fault config ≡ None) × (first_bad config entries ≡ None)

-- it is what the list makes, the count included
abbrev pub IsReplayed : Option (List (List ℕ)) → Config → Administration → Type 0
IsReplayed None config a = Unit {0}
IsReplayed (Some entries) config a = a ≡ replayed config entries

-- ---- answers

-- the reply is the step's, in the administration before it; Full changes nothing
abbrev pub IsAnswer : Administration → Ask → Administration → KeptReply → Type 0
IsAnswer before ask after (Reply reply) = (after, reply) ≡ stepped before ask
IsAnswer before ask after Full = after ≡ before

abbrev pub is_full : KeptReply → Bool
is_full (Reply reply) = false
is_full Full = true

-- as many commands are kept as may be, and the ask would be another
abbrev pub is_past : ℕ → Ask → Bool
is_past n ask = is_keeping ask.command && n == most_kept

-- ---- the keeper's list

-- the ask is kept behind so many others
abbrev pub adds : ℕ → Administration → Ask → Bool
adds n a ask = not (n == most_kept) && is_kept a ask

-- so many, with one more where another was kept
abbrev pub count_one : ℕ → Bool → ℕ
count_one n true = n + 1
count_one n false = n

-- the entry is added where it is to be
abbrev pub added_if : Bool → List ℕ → List (List ℕ) → List (List ℕ)
added_if true entry entries = entries ++ entry ∷ []
added_if false entry entries = entries

abbrev pub Adds : Option (List (List ℕ)) → Bool → List ℕ → Option (List (List ℕ)) → Type 0
Adds None is_added entry new = new ≡ None
Adds (Some entries) is_added entry new = new ≡ Some (added_if is_added entry entries)

-- ---- causes

-- why an administration isn't reopened
abbrev pub IsCause : ReopenCause → Option (List (List ℕ)) → Config → ℕ → ℕ → Type 0
IsCause (Rule rule) told config faults_before faults = start_fault config ≡ Some rule
IsCause (BadRecord place) None config faults_before faults = start_fault config ≡ None
IsCause (BadRecord place) (Some entries) config faults_before faults = (start_fault config ≡ None) × (first_bad config entries ≡ Some place)
IsCause Failed told config faults_before faults = faults_before < faults
IsCause NoMemory told config faults_before faults = Unit {0}
