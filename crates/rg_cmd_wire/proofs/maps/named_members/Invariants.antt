use Rattle.std.proofs.Common.{◌≡◌, ◌≤◌, length, drop}
use Rattle.serde_json.specs.View.{members_view}
use Rattle.rg_cmd_wire.specs.PrintedRows.{named_members}
use Rattle.rg_cmd_wire.proofs.maps.named_members.Given as goal

-- the last items are in
abbrev pub invariant-loop-left : goal.invariant-loop-left
invariant-loop-left g l = record {
  within : l.left ≤ length l.items;
  made : members_view l.members.entries ≡ named_members g.X.Named.named g.X.ToJson.printing (drop l.left l.items);
}

abbrev pub decreases-loop-left : goal.decreases-loop-left
decreases-loop-left g l = l.left
