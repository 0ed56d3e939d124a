use Rattle.std.proofs.Common.{take}
use Rattle.serde_json.specs.View.{items_view}
use Rattle.rg_ask_wire.specs.Orderly.{AreOrderly}
use Rattle.rg_ask_wire.proofs.Seen.{AllOrderly}
use Rattle.rg_ask_wire.proofs.orderly.+seeing.Given as goal

-- the items so far are in order
abbrev pub invariant-see_items-loop-item : goal.invariant-see_items-loop-item
invariant-see_items-loop-item l = AreOrderly (items_view (take l.item-index l.item-items))

-- where the members that are left are in order, all are
abbrev pub invariant-see_members-loop-member : goal.invariant-see_members-loop-member
invariant-see_members-loop-member l = AllOrderly l.member-iterator → AllOrderly l.members.entries
