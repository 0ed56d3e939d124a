-- What is had again from a cache that tells what it holds.
use Rattle.std.specs.Prelude.{◌≡◌, ℕ, List, Option, Some, None, Ok, Err}
use Rattle.rg_facts.specs.declared.facts.Facts.{Facts}
use Rattle.rg_cache.specs.declared.fault.CacheFault.{CacheFault}
use Rattle.rg_cache.specs.declared.fault.CacheFault.TheVariants.{Failed, Kept, NoMemory}
use Rattle.rg_cache.specs.Kept.{kept_in}
use Rattle.rg_cache.specs.Places.{Held}

-- nothing is had where nothing is held, and else what the bytes keep
abbrev pub IsOf : Option (List ℕ) → Option Facts → Type 0
IsOf None facts = facts ≡ None
IsOf (Some bytes) facts = (f : Facts) × (facts ≡ Some f) × (kept_in bytes ≡ Ok f)

abbrev pub IsRecalled : Held → Option Facts → Type 0
IsRecalled None facts = Unit {0}
IsRecalled (Some held) facts = IsOf held facts

-- what is held isn't what was kept, and this is the first that is wrong; no word on a cache that fails, or on memory
abbrev pub IsUnread : Held → CacheFault → Type 0
IsUnread None fault = Unit {0}
IsUnread (Some held) (Kept fault) = (bytes : List ℕ) × (held ≡ Some bytes) × (kept_in bytes ≡ Err fault)
IsUnread (Some held) Failed = Unit {0}
IsUnread (Some held) NoMemory = Unit {0}
