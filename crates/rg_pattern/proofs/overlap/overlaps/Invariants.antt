use Rattle.std.proofs.Common.{◌≡◌, length}
use Rattle.rg_pattern.specs.Tests.{overlaps}
use Rattle.rg_pattern.proofs.overlap.overlaps.Given as goal

abbrev pub invariant-loop-c : goal.invariant-loop-c
invariant-loop-c l = overlaps l.fold l.pattern l.other ≡ overlaps l.fold l.fn.pattern l.fn.other

abbrev pub decreases-loop-c : goal.decreases-loop-c
decreases-loop-c l = length l.pattern
