use Rattle.std.proofs.Common.{◌≡◌, map, take}
use Rattle.rg_base.specs.Listed.{listed}
use Rattle.rg_explain.specs.Explaining.{tagged_by}
use Rattle.rg_explain.proofs.parts.rows_told.Given as goal

abbrev pub invariant-loop-row : goal.invariant-loop-row
invariant-loop-row l = l.list ≡ listed (map tagged_by (take l.row-index l.rows))
