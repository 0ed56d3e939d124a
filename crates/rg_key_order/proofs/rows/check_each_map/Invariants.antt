use Rattle.std.proofs.Common.{take}
use Rattle.rg_json.specs.Own.{EachOf}
use Rattle.rg_ask_wire.specs.KeyOrder.{OwnLevels}
use Rattle.rg_key_order.proofs.rows.check_each_map.Given as goal

-- the maps so far are in order
abbrev pub invariant-loop-levels : goal.invariant-loop-levels
invariant-loop-levels l = EachOf OwnLevels (take l.levels-index l.resources)
