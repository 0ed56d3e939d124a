use Rattle.std.proofs.Common.{sym, subst}
use Rattle.rg_ask_wire.proofs.Seen.{AllOrderly, items_more, keyed}
use Rattle.rg_ask_wire.proofs.orderly.+seeing.Goals as goal

pub see_items-loop-item-preserved : goal.see_items-loop-item-preserved
see_items-loop-item-preserved t c =
    items_more c.deref-item-items.result.now c.loop-item.item-index c.item-item.result c.loop-item-test.true c.item-item.is c.loop-item.invariant c.see.ensures

pub see_members-returns : goal.see_members-returns
see_members-returns t c = keyed c.args.members.now.entries c.iter-member-items.ensures.ordered (c.loop-member.invariant (subst AllOrderly (sym c.in-None.ensures.steps.0) tt))
