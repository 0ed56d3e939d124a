use Rattle.std.proofs.Common.{◌≡◌, length}
use Rattle.rg_tree.specs.Trees.{value_of}
use Rattle.rg_tree.proofs.tree.value_of.Given as goal

abbrev pub invariant-loop-first : goal.invariant-loop-first
invariant-loop-first g l = value_of l.key l.rest ≡ value_of l.key l.placed

abbrev pub decreases-loop-first : goal.decreases-loop-first
decreases-loop-first g l = length l.rest
