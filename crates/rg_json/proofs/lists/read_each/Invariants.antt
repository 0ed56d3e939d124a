use Rattle.std.proofs.Common.{◌≡◌, map, take}
use Rattle.serde_json.specs.View.{view}
use Rattle.rg_base.specs.Listed.{listed}
use Rattle.rg_json.specs.Own.{EachOf}
use Rattle.rg_json.proofs.lists.read_each.Given as goal

-- what was read so far
abbrev pub invariant-loop-value : goal.invariant-loop-value
invariant-loop-value g l = record {
  reads : l.read ≡ listed (map (g.W.Reader.reading l.reader) (map view (take l.value-index l.values)));
  owned : EachOf g.W.Reader.owned l.read.items;
}
