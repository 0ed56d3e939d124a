use Rattle.std.proofs.Common.{◌≡◌}
use Rattle.std.specs.List.{filter_map}
use Rattle.rg_delta.specs.Editing.{became}
use Rattle.rg_delta.proofs.fates.keep.Given as goal

-- what became of the items so far is kept
abbrev pub invariant-loop-item : goal.invariant-loop-item
invariant-loop-item g l = l.kept.items ≡ filter_map (became g.X.Identified.id_of l.edits) l.yielded
