use Rattle.std.proofs.Common.{take}
use Rattle.rg_delta.specs.Editing.{AreIds}
use Rattle.rg_delta.proofs.births.ids_of.Given as goal

-- the ids of the items before this one are marked
abbrev pub invariant-loop-item : goal.invariant-loop-item
invariant-loop-item g l = AreIds g.X.Identified.id_of l.ids (take l.item-index l.items)
