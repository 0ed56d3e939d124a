use Rattle.std.proofs.Common.{◌≡◌, length}
use Rattle.rg_session.specs.Closing.{ahead_of}
use Rattle.rg_session.proofs.settling.first_ahead.Given as goal

abbrev pub invariant-loop-pass : goal.invariant-loop-pass
invariant-loop-pass l = ahead_of l.fn.told.0 l.rest ≡ ahead_of l.fn.told.0 l.fn.passes

abbrev pub decreases-loop-pass : goal.decreases-loop-pass
decreases-loop-pass l = length l.rest
