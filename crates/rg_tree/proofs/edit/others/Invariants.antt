use Rattle.std.proofs.Common.{◌≡◌, take}
use Rattle.rg_tree.specs.Trees.{others}
use Rattle.rg_tree.proofs.edit.others.Given as goal

abbrev pub invariant-loop-one : goal.invariant-loop-one
invariant-loop-one g l = l.held.items ≡ others l.key (take l.one-index l.placed)
