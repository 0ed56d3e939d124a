use Rattle.std.proofs.Common.{◌≡◌, ◌≤◌, length, drop}
use Rattle.serde_json.specs.View.{members_view}
use Rattle.rg_wire.specs.Printing.{level_members}
use Rattle.rg_wire.proofs.policy_text.level_members.Given as goal

-- the last levels are in
abbrev pub invariant-loop-left : goal.invariant-loop-left
invariant-loop-left l = record {
  within : l.left ≤ length l.resources;
  made : members_view l.members.entries ≡ level_members (drop l.left l.resources);
}

abbrev pub decreases-loop-left : goal.decreases-loop-left
decreases-loop-left l = l.left
