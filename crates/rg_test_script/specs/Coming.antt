-- What a line of the replay came to, as a relation. Only proofs need it.
use Rattle.std.specs.Prelude.{◌≡◌, Option, Some, None}
use Rattle.rg_run_script.specs.Follow.{Work}
use Rattle.rg_run_replay.specs.Replay.{State}
use Rattle.rg_test_script.specs.declared.outcome.Outcome.{Outcome}
use Rattle.rg_test_script.specs.Testing.{outcome_of}

-- the line led to this state, and came to this
abbrev pub CameTo : Option (Work State) → State → Outcome → Type 0
CameTo None s o = ⊥
CameTo (Some w) s o = (s ≡ w.state) × (o ≡ outcome_of w)
