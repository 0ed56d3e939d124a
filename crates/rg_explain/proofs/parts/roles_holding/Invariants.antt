use Rattle.std.proofs.Common.{◌≡◌, filter, map, take}
use Rattle.rg_base.specs.Listed.{listed}
use Rattle.rg_explain.specs.Explaining.{held_by, is_holding}
use Rattle.rg_explain.proofs.parts.roles_holding.Given as goal

abbrev pub invariant-loop-row : goal.invariant-loop-row
invariant-loop-row l = l.list ≡ listed (map (held_by l.rows l.request) (filter (is_holding l.rows l.request) (take l.row-index l.rows)))
