use Rattle.std.proofs.Common.{◌≡◌, take}
use Rattle.rg_base.specs.Listed.{listed}
use Rattle.rg_acl.specs.Strangers.{members_from}
use Rattle.rg_acl.proofs.members.members_of.Given as goal

abbrev pub invariant-loop-place : goal.invariant-loop-place
invariant-loop-place l = l.made ≡ listed (members_from l.stranger 0 (take l.place l.rows))
