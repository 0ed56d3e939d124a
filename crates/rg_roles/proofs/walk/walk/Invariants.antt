use Rattle.std.proofs.Common.{◌-◌, length}
use Rattle.rg_roles.specs.Places.{IsWalked}
use Rattle.rg_roles.proofs.walk.walk.Given as goal

abbrev pub invariant-loop-next : goal.invariant-loop-next
invariant-loop-next l = IsWalked l.chart l.from l.next l.found.items l.seen

abbrev pub decreases-loop-next : goal.decreases-loop-next
decreases-loop-next l = length l.chart - l.next
