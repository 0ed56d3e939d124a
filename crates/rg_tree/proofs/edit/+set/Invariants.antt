use Rattle.std.proofs.Common.{◌-◌, ◌^◌}
use Rattle.rg_tree.proofs.edit.+set.Given as goal

abbrev pub decreases-set : goal.decreases-set
decreases-set g l = 2 ^ 32 - l.depth
