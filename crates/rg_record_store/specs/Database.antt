-- What contracts see of the keeper over a database: nothing of the records.
use Rattle.std.specs.Prelude.{◌≡◌, ℕ, List, Some, None}

-- how many calls failed
pub record SqlState : Type 0 where
  pub faults : ℕ

-- For proofs alone: what tells none tells no records.
pub untold : {X : Type 0} (records : List (List ℕ)) → None ≡ Some records → X
untold records told = absurd (cc told)
