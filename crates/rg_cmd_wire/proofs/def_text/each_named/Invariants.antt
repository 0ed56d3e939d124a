use Rattle.std.proofs.Common.{◌≡◌, map, take}
use Rattle.serde_json.specs.View.{view}
use Rattle.rg_cmd_wire.specs.PrintedRows.{named_data}
use Rattle.rg_cmd_wire.proofs.def_text.each_named.Given as goal

-- what was made so far
abbrev pub invariant-loop-name : goal.invariant-loop-name
invariant-loop-name l = map view l.made.items ≡ map named_data (take l.name-index l.names)
