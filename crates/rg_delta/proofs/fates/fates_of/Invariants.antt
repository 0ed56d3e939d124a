use Rattle.std.proofs.Common.{◌≡◌, drop, reverse}
use Rattle.rg_delta.specs.Editing.{AreFates, born}
use Rattle.rg_delta.proofs.fates.fates_of.Given as goal

-- the edits from this place on are followed
abbrev pub invariant-loop-at : goal.invariant-loop-at
invariant-loop-at g l = record {
  fates : AreFates g.X.Identified.id_of l.edits l.fates (drop l.at l.edits);
  born : reverse l.last_first.items ≡ born g.X.Identified.id_of (drop l.at l.edits) (drop l.at l.marks);
}
