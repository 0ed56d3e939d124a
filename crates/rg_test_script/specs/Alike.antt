-- How a script ends that is replayed, and that is tested.
use Rattle.std.specs.Prelude.{◌≡◌, Option, Some, None}
use Rattle.rg_run_replay.specs.Replay.{State}
use Rattle.rg_run_script.specs.declared.status.Status.TheVariants.{Done}
use Rattle.rg_run_script.specs.Follow.{Output}
use Rattle.rg_test_script.specs.Testing.{Progress}

-- the replay has no bad line, and both end in one state
pub record AreAlike (replay : Output State) (tests : Output Progress) : Type 0 where
  pub status : replay.status ≡ Done
  pub state : tests.state.script ≡ replay.state

-- the replay comes to an end, and so
abbrev pub EndsAlike : Option (Output State) → Output Progress → Type 0
EndsAlike None tests = ⊥
EndsAlike (Some replay) tests = AreAlike replay tests
