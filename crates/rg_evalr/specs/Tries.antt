-- Bounds on counted work.
use Rattle.std.specs.Prelude.{◌≡◌, ◌≤◌, ◌+◌, ℕ}
use Rattle.rg_base.specs.Counts.{Counts}

-- at most so many tries were counted, and nothing else
pub record TriesAtMost (n : ℕ) (old new : Counts) : Type 0 where
  pub compiles : new.compiles ≡ old.compiles
  pub edits : new.edits ≡ old.edits
  pub least : old.tries ≤ new.tries
  pub most : new.tries ≤ old.tries + n
