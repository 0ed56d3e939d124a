use Rattle.rg_ask_wire.specs.KeyOrder.{OwnLevels}
use Rattle.rg_key_order.proofs.Order.{each_more}
use Rattle.rg_key_order.proofs.rows.check_each_map.Goals as goal

pub loop-levels-preserved : goal.loop-levels-preserved
loop-levels-preserved c = each_more OwnLevels c.args.resources.now c.loop-levels.levels-index c.levels-item.result c.loop-levels-test.true c.levels-item.is c.loop-levels.invariant c.in_ok-check_map.ensures
