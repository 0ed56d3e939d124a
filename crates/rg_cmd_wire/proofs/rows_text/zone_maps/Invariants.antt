use Rattle.std.proofs.Common.{◌≡◌, map, take}
use Rattle.serde_json.specs.View.{view}
use Rattle.rg_cmd_wire.specs.PrintedRows.{zone_map_data}
use Rattle.rg_cmd_wire.proofs.rows_text.zone_maps.Given as goal

-- what was made so far
abbrev pub invariant-loop-levels : goal.invariant-loop-levels
invariant-loop-levels l = map view l.made.items ≡ map zone_map_data (take l.levels-index l.resources)
