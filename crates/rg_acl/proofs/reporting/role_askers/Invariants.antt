use Rattle.std.proofs.Common.{◌≡◌, map, take}
use Rattle.rg_acl.specs.Rows.{role_asker}
use Rattle.rg_acl.proofs.reporting.role_askers.Given as goal

abbrev pub invariant-loop-name : goal.invariant-loop-name
invariant-loop-name l = l.askers.items ≡ map (role_asker l.stranger l.rows) (take l.name-index l.name-items)
