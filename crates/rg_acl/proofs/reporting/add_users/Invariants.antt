use Rattle.std.proofs.Common.{◌≡◌, ◌++◌, map, take}
use Rattle.rg_acl.specs.Rows.{user_asker}
use Rattle.rg_acl.proofs.reporting.add_users.Given as goal

abbrev pub invariant-loop-user : goal.invariant-loop-user
invariant-loop-user l = l.askers.items ≡ l.initial.askers.items ++ map user_asker (take l.user-index l.users)
