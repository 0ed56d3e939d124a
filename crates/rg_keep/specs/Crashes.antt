-- What a step does to the keeper's list, and what a crash during it leaves.
use Rattle.std.specs.Prelude.{◌≡◌, ◌⊎◌, ◌<◌, ℕ, Bool, true, List, [], ◌∷◌, ◌++◌, Option, Some, None, Ok}
use Rattle.rg_cmd.specs.declared.ask.Ask.{Ask}
use Rattle.rg_cmd.specs.declared.config.Config.{Config}
use Rattle.rg_admin_laws.specs.Logs.{Administration}
use Rattle.rg_ask_wire.specs.Asks.{ask_text}
use Rattle.rg_ask_wire.specs.Reading.{ask_reading}
use Rattle.rg_keep.specs.Keeping.{IsKeptBy}
use Rattle.rg_keep.specs.Replay.{is_kept, most_kept, stepped}

-- the ask is kept, its record is read again as itself, and there is room behind so many others
pub record IsFit (a : Administration) (ask : Ask) (n : ℕ) : Type 0 where
  pub kept : is_kept a ask ≡ true
  pub reads : ask_reading (ask_text ask) ≡ Ok ask
  pub room : n < most_kept

-- a crash leaves the list as it was, or with the record of an ask that is fit
abbrev pub MayLeave : Option (List (List ℕ)) → Administration → Ask → ℕ → List (List ℕ) → Type 0
MayLeave None a ask n left = Unit {0}
MayLeave (Some entries) a ask n left = (left ≡ entries) ⊎ (IsFit a ask n × (left ≡ entries ++ ask_text ask ∷ []))

-- the list that is told is such
abbrev pub MayTell : Option (List (List ℕ)) → Administration → Ask → ℕ → Option (List (List ℕ)) → Type 0
MayTell None a ask n new = new ≡ None
MayTell (Some entries) a ask n new = (new ≡ Some entries) ⊎ (IsFit a ask n × (new ≡ Some (entries ++ ask_text ask ∷ [])))

-- the list is reopened as the administration before the ask, or as the one after it
abbrev pub IsBeforeOrAfter : Config → Administration → Ask → List (List ℕ) → Type 0
IsBeforeOrAfter config a ask left = IsKeptBy config left a ⊎ IsKeptBy config left (stepped a ask).0

-- so is each list that a crash may leave, where the keeper tells its list
abbrev pub Survives : Option (List (List ℕ)) → Config → Administration → Ask → List (List ℕ) → Type 0
Survives None config a ask left = Unit {0}
Survives (Some entries) config a ask left = IsBeforeOrAfter config a ask left

-- ---- for proofs alone: the same of an entry that is yet to be known as the ask's record

abbrev pub MayGain : Option (List (List ℕ)) → Bool → List ℕ → List (List ℕ) → Type 0
MayGain None may_add entry left = Unit {0}
MayGain (Some entries) may_add entry left = (left ≡ entries) ⊎ ((may_add ≡ true) × (left ≡ entries ++ entry ∷ []))

abbrev pub Gains : Option (List (List ℕ)) → Bool → List ℕ → Option (List (List ℕ)) → Type 0
Gains None may_add entry new = new ≡ None
Gains (Some entries) may_add entry new = (new ≡ Some entries) ⊎ ((may_add ≡ true) × (new ≡ Some (entries ++ entry ∷ [])))
