-- What contracts see of the sink over a writer.
use Rattle.std.specs.Prelude.{ℕ, List, Option}

-- the bytes that the writer holds, where it tells them, and how many calls failed
pub record WrittenState : Type 0 where
  pub bytes : Option (List ℕ)
  pub faults : ℕ
