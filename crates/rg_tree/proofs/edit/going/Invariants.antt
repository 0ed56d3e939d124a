use Rattle.std.proofs.Common.{◌≡◌, take}
use Rattle.rg_tree.specs.Trees.{going}
use Rattle.rg_tree.proofs.edit.going.Given as goal

abbrev pub invariant-loop-one : goal.invariant-loop-one
invariant-loop-one g l = l.held.items ≡ going l.depth l.number (take l.one-index l.placed)
