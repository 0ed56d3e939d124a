use Rattle.std.proofs.Common.{◌≡◌, take}
use Rattle.rg_roles.specs.Members.{names_of}
use Rattle.rg_acl.proofs.reporting.names_of_roles.Given as goal

abbrev pub invariant-loop-row : goal.invariant-loop-row
invariant-loop-row l = l.names.items ≡ names_of (take l.row-index l.rows)
