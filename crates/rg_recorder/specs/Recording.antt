-- For proofs alone: what becomes of a recorder where an ask is to be kept.
use Rattle.std.specs.Prelude.{◌≡◌, ◌⊎◌, ◌<◌, ℕ, true, false, List, length, Option, Some, None, Ok}
use Rattle.rg_base.specs.Listed.{Listed}
use Rattle.rg_cmd.specs.declared.ask.Ask.{Ask}
use Rattle.rg_record_store.specs.Keeping.{Gets}
use Rattle.rg_ask_wire.specs.Asks.{ask_text}
use Rattle.rg_ask_wire.specs.Keeping.{is_keeping}
use Rattle.rg_ask_wire.specs.Reading.{ask_reading}
use Rattle.rg_keep.specs.Replay.{most_kept}
use Rattle.rg_recorder.specs.Recorded.{Recorded, seen}

-- this is the next record
abbrev pub IsNext : Option (Listed ℕ) → List ℕ → Type 0
IsNext None entry = ⊥
IsNext (Some next) entry = entry ≡ next.items

-- there is room behind the list
abbrev pub HasRoom : Option (List (List ℕ)) → Type 0
HasRoom None = Unit {0}
HasRoom (Some list) = length list < most_kept

-- an ask that is kept, whose record is read again as itself, and for which there is room
pub record IsFitting (told : Option (List (List ℕ))) (ask : Ask) : Type 0 where
  pub keeps : is_keeping ask.command ≡ true
  pub reads : ask_reading (ask_text ask) ≡ Ok ask
  pub room : HasRoom told

module _ {K : Type 0} (kept : K → Option (List (List ℕ))) (old : Recorded K) where
  abbrev pub seen_of : Recorded K → Option (List (List ℕ))
  seen_of r = seen (kept r.keeper) r.place r.next

  -- it has seen as much as before, and may have stopped
  pub record Stays (new : Recorded K) : Type 0 where
    pub config : new.config ≡ old.config
    pub seen_same : seen_of new ≡ seen_of old

  -- it has seen this record behind the others
  pub record Gains (entry : List ℕ) (new : Recorded K) : Type 0 where
    pub config : new.config ≡ old.config
    pub gets : Gets (seen_of old) entry (seen_of new)

  -- it took the record
  abbrev pub Takes : List ℕ → Recorded K → Type 0
  Takes entry new = Gains entry new × (new.stopped ≡ false)

  -- it didn't: where the record may be there, it has stopped
  abbrev pub Misses : List ℕ → Recorded K → Type 0
  Misses entry new = Stays new ⊎ (Gains entry new × (new.stopped ≡ true))

  abbrev pub Keeps : Ask → Recorded K → Type 0
  Keeps ask new = IsFitting (seen_of old) ask × Takes (ask_text ask) new

  abbrev pub Fails : Ask → Recorded K → Type 0
  Fails ask new = Stays new ⊎ (IsFitting (seen_of old) ask × Gains (ask_text ask) new × (new.stopped ≡ true))
