use Rattle.std.proofs.Common.{◌≡◌, ◌<◌, ℕ, true}
use Rattle.rg_roles.specs.Places.{stays}
use Rattle.rg_roles.proofs.fault.never_rises.Given as goal

abbrev pub invariant-loop-place : goal.invariant-loop-place
invariant-loop-place l = (k : ℕ) → k < l.place → stays l.chart l.ranks k ≡ true
