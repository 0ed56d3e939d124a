use Rattle.std.proofs.Common.{length}
use Rattle.rg_pattern.specs.Tests.{covers}
use Rattle.rg_pattern.specs.Steps.{LeadsTo}
use Rattle.rg_pattern.proofs.covering.cover_segment.Given as goal

abbrev pub invariant-loop-atom : goal.invariant-loop-atom
invariant-loop-atom l = LeadsTo (covers l.fold) l.fn.pattern l.fn.other l.pattern l.other

abbrev pub decreases-loop-atom : goal.decreases-loop-atom
decreases-loop-atom l = length l.pattern
