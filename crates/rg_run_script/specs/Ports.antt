-- What a run sees of the outside.
use Rattle.std.specs.Prelude.{ℕ, List, Bool, Option}
use Rattle.rg_base.specs.declared.numbers.Moment.{Moment}

-- the source: the bytes to come, whether it has ended, its faults; the moments that the clock gave; the sink: the bytes that it took, and
-- its faults. Bytes and moments are there where the objects tell them
pub record Ports : Type 0 where
  pub left : Option (List ℕ)
  pub ended : Bool
  pub read_faults : ℕ
  pub given : Option (List Moment)
  pub held : Option (List ℕ)
  pub write_faults : ℕ

abbrev pub ports : Option (List ℕ) → Bool → ℕ → Option (List Moment) → Option (List ℕ) → ℕ → Ports
ports left ended read_faults given held write_faults = record {
  left = left;
  ended = ended;
  read_faults = read_faults;
  given = given;
  held = held;
  write_faults = write_faults;
}
