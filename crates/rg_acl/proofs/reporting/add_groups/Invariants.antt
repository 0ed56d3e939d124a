use Rattle.std.proofs.Common.{◌≡◌, ◌++◌, map, take}
use Rattle.rg_acl.specs.Rows.{group_asker}
use Rattle.rg_acl.proofs.reporting.add_groups.Given as goal

abbrev pub invariant-loop-group : goal.invariant-loop-group
invariant-loop-group l = l.askers.items ≡ l.initial.askers.items ++ map (group_asker l.stranger) (take l.group-index l.groups)
