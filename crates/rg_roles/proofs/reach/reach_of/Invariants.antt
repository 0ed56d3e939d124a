use Rattle.std.proofs.Common.{◌≡◌, ◌<◌, ℕ, length, None, get_or}
use Rattle.std.specs.Option.{IsSome}
use Rattle.rg_roles.specs.Places.{AreKnown}
use Rattle.rg_roles.proofs.reach.reach_of.Given as goal

abbrev pub invariant-loop-place : goal.invariant-loop-place
invariant-loop-place l = AreKnown l.chart l.reach × (length l.reach ≡ length l.chart)

abbrev pub invariant-loop-place-2 : goal.invariant-loop-place-2
invariant-loop-place-2 l = AreKnown l.chart l.reach × (length l.reach ≡ length l.chart) × ((k : ℕ) → k < l.place → IsSome (get_or l.reach k None))
