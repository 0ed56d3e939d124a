-- What a recorder has of its list, and what that says of the administration. To be read first.
use Rattle.std.specs.Prelude.{◌≡◌, ◌⊎◌, ◌++◌, ℕ, Bool, true, false, List, [], ◌∷◌, take, Option, Some, None}
use Rattle.rg_base.specs.Listed.{Listed, listed}
use Rattle.rg_cmd.specs.declared.config.Config.{Config}
use Rattle.rg_admin_laws.specs.Logs.{Administration}
use Rattle.rg_record_store.specs.Keeping.{IsAt}
use Rattle.rg_keep.specs.Keeping.{Counts, IsKept, IsKeptBy}
use Rattle.rg_keep.specs.Replay.{first_bad}

-- what contracts see of a recorder: its keeper, the configuration, how many records it has passed by or kept, the next record of the list
-- (none once it is level with it), and whether it has stopped
pub record Recorded (K : Type 0) : Type 0 where
  pub keeper : K
  pub config : Config
  pub place : ℕ
  pub next : Option (Listed ℕ)
  pub stopped : Bool

-- so much of the list was passed by or kept: the records before its place, and all of them once it is level
abbrev pub seen : Option (List (List ℕ)) → ℕ → Option (Listed ℕ) → Option (List (List ℕ))
seen told place None = told
seen None place (Some next) = None
seen (Some list) place (Some next) = Some (take place list)

-- ---- the administration

-- the last record was taken and never acknowledged: the list is reopened, and without that record as the administration
abbrev pub HasOneMore : List (List ℕ) → Config → Administration → Type 0
HasOneMore list config a = (front : List (List ℕ)) × (last : List ℕ) × (list ≡ front ++ last ∷ []) × IsKeptBy config front a × (first_bad config list ≡ None)

abbrev pub MayHaveOneMore : Option (List (List ℕ)) → Config → Administration → Type 0
MayHaveOneMore None config a = Unit {0}
MayHaveOneMore (Some list) config a = IsKeptBy config list a ⊎ HasOneMore list config a

-- the list is reopened as the administration; once the recorder has stopped, it may have one record more
abbrev pub IsKeptOr : Bool → Option (List (List ℕ)) → Config → Administration → Type 0
IsKeptOr false told config a = IsKept told config a
IsKeptOr true told config a = MayHaveOneMore told config a

-- so it is with what the recorder has seen of its list
abbrev pub IsHeld : {K : Type 0} → (K → Option (List (List ℕ))) → Recorded K → Administration → Type 0
IsHeld kept r a = IsKeptOr r.stopped (seen (kept r.keeper) r.place r.next) r.config a

-- and so it would be if it ended here
abbrev pub IsUndone : {K : Type 0} → (K → Option (List (List ℕ))) → Recorded K → Administration → Type 0
IsUndone kept r a = MayHaveOneMore (seen (kept r.keeper) r.place r.next) r.config a

-- ---- until it stops

-- the next record is the one at its place
abbrev pub HasNext : Option (List (List ℕ)) → ℕ → Option (Listed ℕ) → Type 0
HasNext told place None = Unit {0}
HasNext told place (Some next) = IsAt told place (Some next)

-- and its place is the number of records that it has seen
pub record Stands (told : Option (List (List ℕ))) (place : ℕ) (next : Option (Listed ℕ)) : Type 0 where
  pub ahead : HasNext told place next
  pub counts : Counts (seen told place next) place

-- for a name that isn't used
abbrev pub no_config : Config
no_config = record { admins = listed []; users = listed []; time_zones = listed []; defs = listed []; services = listed []; plugin = [] }
