use Rattle.std.proofs.Common.{take}
use Rattle.rg_json.specs.Own.{EachOf}
use Rattle.rg_key_order.proofs.lists.check_each.Given as goal

-- the items so far are in order
abbrev pub invariant-loop-item : goal.invariant-loop-item
invariant-loop-item g l = EachOf g.T.Ordered.in_order (take l.item-index l.items)
