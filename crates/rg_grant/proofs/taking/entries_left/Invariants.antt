use Rattle.std.proofs.Common.{◌≡◌, take}
use Rattle.rg_base.specs.Listed.{listed}
use Rattle.rg_grant.specs.Taking.{entries_left}
use Rattle.rg_grant.proofs.taking.entries_left.Given as goal

abbrev pub invariant-loop-entry : goal.invariant-loop-entry
invariant-loop-entry l = l.left ≡ listed (entries_left l.row (take l.entry-index l.entries))
