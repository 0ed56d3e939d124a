use Rattle.std.proofs.Common.{◌≡◌, ◌≤◌, length, drop}
use Rattle.serde_json.specs.View.{members_view}
use Rattle.rg_explain_wire.specs.Printing.{texts_by_name}
use Rattle.rg_explain_wire.proofs.request.texts_by_name.Given as goal

-- the last ones are in
abbrev pub invariant-loop-left : goal.invariant-loop-left
invariant-loop-left g l = record {
  within : l.left ≤ length l.items;
  made : members_view l.members.entries ≡ texts_by_name g.X.NamedText.pair_of (drop l.left l.items);
}

abbrev pub decreases-loop-left : goal.decreases-loop-left
decreases-loop-left g l = l.left
