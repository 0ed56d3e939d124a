use Rattle.std.proofs.Common.{◌-◌, drop}
use Rattle.rg_ask_wire.specs.KeyOrder.{AreInOrder}
use Rattle.rg_key_order.proofs.lists.is_sorted.Given as goal

-- where the items from the one before this are in order, all are
abbrev pub invariant-loop-place : goal.invariant-loop-place
invariant-loop-place g l = AreInOrder g.T.Named.named (drop (l.place - 1) l.items) → AreInOrder g.T.Named.named l.items
