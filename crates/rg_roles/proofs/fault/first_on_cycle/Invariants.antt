use Rattle.std.proofs.Common.{◌<◌, ℕ}
use Rattle.rg_roles.specs.Places.{Reaches}
use Rattle.rg_roles.proofs.fault.first_on_cycle.Given as goal

-- no place that was passed lies on a cycle
abbrev pub invariant-loop-place : goal.invariant-loop-place
invariant-loop-place l = (k : ℕ) → k < l.place → ¬ (Reaches l.chart k k)
