use Rattle.std.proofs.Common.{◌≡◌, ◌+◌, ◌-◌, ◌^◌, ◌≤◌, length}
use Rattle.std.specs.Prelude.{min, sum_by}
use Rattle.rg_publish.specs.Passes.{Seeing}
use Rattle.rg_session.specs.Closing.{answers_of}
use Rattle.rg_session.proofs.settling.decisions_of.Given as goal

abbrev pub invariant-loop-pass : goal.invariant-loop-pass
invariant-loop-pass l = (l.sum ≤ 2 ^ 64 - 1) × (min (l.sum + sum_by (λ (p : Seeing). p.answered) l.rest) (2 ^ 64 - 1) ≡ answers_of l.fn.passes)

abbrev pub decreases-loop-pass : goal.decreases-loop-pass
decreases-loop-pass l = length l.rest
