-- How the calls on an object in memory go. They are counted from 1.
use Rattle.std.specs.Prelude.{ℕ, ◌+◌, min, List, Contains}
use Rattle.rg_ports.specs.Repeated.{repeated}

-- how many calls there were, how many of them failed, the most bytes that each moves, and the numbers of those that are to fail
pub record CallState : Type 0 where
  pub made : ℕ
  pub faults : ℕ
  pub pieces : List ℕ
  pub fails : List ℕ

-- the next call is listed to fail
abbrev pub IsToFail : CallState → Type 0
IsToFail c = Contains c.fails (c.made + 1)

-- how many bytes the next call moves where so many can be moved: the sizes are taken in turn, and the last repeats; no size sets no bound
abbrev pub moves : CallState → ℕ → ℕ
moves c most = min (repeated most c.pieces c.made) most

-- after a call that succeeded
abbrev pub succeeded : CallState → CallState
succeeded c = record c { made = c.made + 1 }

-- after a call that failed
abbrev pub failed : CallState → CallState
failed c = record c { made = c.made + 1; faults = c.faults + 1 }

-- before the first call
abbrev pub untouched : List ℕ → List ℕ → CallState
untouched pieces fails = record { made = 0; faults = 0; pieces = pieces; fails = fails }
