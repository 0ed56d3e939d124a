use Rattle.std.proofs.Common.{◌≡◌, take}
use Rattle.rg_roles.proofs.membership.copies.Given as goal

abbrev pub invariant-loop-row : goal.invariant-loop-row
invariant-loop-row l = l.held.items ≡ take l.row-index l.rows
