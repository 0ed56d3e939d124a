use Rattle.std.proofs.Common.{drop}
use Rattle.rg_pattern.specs.Steps.{IsRow}
use Rattle.rg_pattern.proofs.overlap.table.Given as goal

abbrev pub invariant-loop-at : goal.invariant-loop-at
invariant-loop-at l = IsRow l.fold (drop l.at l.pattern) l.other l.row
