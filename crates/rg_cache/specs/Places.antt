-- What a place of a cache holds, where it tells it.
use Rattle.std.specs.Prelude.{◌≡◌, ℕ, List, Option, Some, None}

-- nothing, or the bytes that were stored last; None where the place doesn't tell it
abbrev pub Held : Type 0
Held = Option (Option (List ℕ))

-- what a place in memory holds, and how many calls failed
pub record Memory : Type 0 where
  pub held : Option (List ℕ)
  pub faults : ℕ

-- these bytes are held now; a place that tells nothing goes on telling nothing
abbrev pub Holds : Held → Held → List ℕ → Type 0
Holds None new bytes = new ≡ None
Holds (Some old) new bytes = new ≡ Some (Some bytes)

-- what was loaded is what is held
abbrev pub IsHeld : Held → Option (List ℕ) → Type 0
IsHeld None bytes = Unit {0}
IsHeld (Some held) bytes = bytes ≡ held
