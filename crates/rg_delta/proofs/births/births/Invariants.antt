use Rattle.std.proofs.Common.{◌≡◌, fold, take}
use Rattle.rg_delta.specs.Editing.{AreIds, births, edited}
use Rattle.rg_delta.proofs.births.births.Given as goal

-- the edits before this one are followed
abbrev pub invariant-loop-edit : goal.invariant-loop-edit
invariant-loop-edit g l = record {
  ids : AreIds g.X.Identified.id_of l.ids (fold (edited g.X.Identified.id_of) l.items (take l.edit-index l.edits));
  marks : l.marks.items ≡ births g.X.Identified.id_of l.items (take l.edit-index l.edits);
}
