use Rattle.std.proofs.Common.{◌≡◌, take}
use Rattle.rg_base.specs.Listed.{listed}
use Rattle.rg_grant.specs.Taking.{items_left}
use Rattle.rg_grant.proofs.taking.items_left.Given as goal

abbrev pub invariant-loop-item : goal.invariant-loop-item
invariant-loop-item l = l.left ≡ listed (items_left l.row (take l.item-index l.items))
