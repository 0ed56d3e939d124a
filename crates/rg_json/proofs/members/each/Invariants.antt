use Rattle.std.proofs.Common.{◌≡◌, map, take}
use Rattle.serde_json.specs.View.{view}
use Rattle.rg_json.proofs.members.each.Given as goal

-- what was made so far
abbrev pub invariant-loop-item : goal.invariant-loop-item
invariant-loop-item g l = map view l.made.items ≡ map g.X.ToJson.printing (take l.item-index l.items)
