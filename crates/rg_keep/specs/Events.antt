-- A kept administration from its opening on, whatever it is asked and whenever it breaks off. To be read after Keeping.
use Rattle.std.specs.Prelude.{◌≡◌, ◌⊎◌, ◌&&◌, ◌++◌, ℕ, Bool, List, [], ◌∷◌, length, Option, Some, None, Ok, if◌then◌else◌}
use Rattle.rg_cmd.specs.declared.ask.Ask.{Ask}
use Rattle.rg_cmd.specs.declared.config.Config.{Config}
use Rattle.rg_admin_laws.specs.Logs.{Administration}
use Rattle.rg_ask_wire.specs.Asks.{ask_text}
use Rattle.rg_ask_wire.specs.Reading.{ask_reading}
use Rattle.rg_keep.specs.Keeping.{IsKeptBy, added_if, adds, is_past}
use Rattle.rg_keep.specs.Replay.{first_bad, replayed, stepped}

-- what happens to it: an ask is answered; a crash or a fault of the keeper breaks one off, before its record is with the keeper or after; a
-- crash comes between two calls; it is opened again from the keeper's list
pub data Event : Type 0 where
  Answered : (ask : Ask) → Event
  BrokenOff : (ask : Ask) → (is_there : Bool) → Event
  Crashed : Event
  Reopened : Event

-- the keeper's list, the administration where there is one, and the records of the commands that were acknowledged: accepted, to be kept,
-- and answered
pub record World : Type 0 where
  pub entries : List (List ℕ)
  pub admin : Option Administration
  pub acknowledged : List (List ℕ)

-- opened over the records that were found
abbrev pub opened : Config → List (List ℕ) → World
opened config found = record { entries = found; admin = Some (replayed config found); acknowledged = [] }

-- after an ask that was answered, where so many commands are kept: one past those that may be kept changes nothing
abbrev pub asked_of : ℕ → Administration → Ask → Administration
asked_of n a ask = if is_past n ask then a else (stepped a ask).0

abbrev pub answered : World → Option Administration → Ask → World
answered w None ask = w
answered w (Some a) ask = record {
  entries = added_if (adds (length w.entries) a ask) (ask_text ask) w.entries;
  admin = Some (asked_of (length w.entries) a ask);
  acknowledged = added_if (adds (length w.entries) a ask) (ask_text ask) w.acknowledged;
}

abbrev pub broken_off : World → Option Administration → Ask → Bool → World
broken_off w None ask is_there = w
broken_off w (Some a) ask is_there = record {
  entries = added_if (is_there && adds (length w.entries) a ask) (ask_text ask) w.entries;
  admin = None;
  acknowledged = w.acknowledged;
}

abbrev pub happens : Config → World → Event → World
happens config w (Answered ask) = answered w w.admin ask
happens config w (BrokenOff ask is_there) = broken_off w w.admin ask is_there
happens config w Crashed = record { entries = w.entries; admin = None; acknowledged = w.acknowledged }
happens config w Reopened = record { entries = w.entries; admin = Some (replayed config w.entries); acknowledged = w.acknowledged }

abbrev pub run : Config → List Event → World → World
run config [] w = w
run config (event ∷ events) w = run config events (happens config w event)

-- these stand among those, in their order
abbrev pub AreAmong : List (List ℕ) → List (List ℕ) → Type 0
AreAmong [] all = Unit {0}
AreAmong (x ∷ xs) [] = ⊥
AreAmong (x ∷ xs) (y ∷ ys) = ((x ≡ y) × AreAmong xs ys) ⊎ AreAmong (x ∷ xs) ys

-- the list has the records that were found, and behind them those of all acknowledged commands
abbrev pub HasAcknowledged : List (List ℕ) → World → Type 0
HasAcknowledged found w = (more : List (List ℕ)) × (w.entries ≡ found ++ more) × AreAmong w.acknowledged more

-- the record of what is asked is read again as itself, as it is of each ask in key order that is printed
abbrev pub IsReadAgain : Event → Type 0
IsReadAgain (Answered ask) = ask_reading (ask_text ask) ≡ Ok ask
IsReadAgain (BrokenOff ask is_there) = ask_reading (ask_text ask) ≡ Ok ask
IsReadAgain Crashed = Unit {0}
IsReadAgain Reopened = Unit {0}

-- the list has no bad record, and the administration, where there is one, is what it makes, but for the count
abbrev pub AgreesWith : Config → List (List ℕ) → Option Administration → Type 0
AgreesWith config entries None = first_bad config entries ≡ None
AgreesWith config entries (Some a) = IsKeptBy config entries a
