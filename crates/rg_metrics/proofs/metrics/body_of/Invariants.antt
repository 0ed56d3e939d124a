use Rattle.std.proofs.Common.{length}
use Rattle.rg_metrics.proofs.metrics.body_of.Given as goal

abbrev pub decreases-loop-others : goal.decreases-loop-others
decreases-loop-others l = length l.rest
