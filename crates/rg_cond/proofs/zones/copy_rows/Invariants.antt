use Rattle.std.proofs.Common.{◌≡◌, take}
use Rattle.rg_cond.proofs.zones.copy_rows.Given as goal

-- what was copied so far
abbrev pub invariant-loop-row : goal.invariant-loop-row
invariant-loop-row l = l.copy.items ≡ take l.row-index l.rows
