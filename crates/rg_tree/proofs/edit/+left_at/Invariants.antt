use Rattle.rg_tree.proofs.edit.+left_at.Given as goal

abbrev pub decreases-left_at : goal.decreases-left_at
decreases-left_at l = l.depth
