use Rattle.std.proofs.Common.{◌≡◌, filter, map, take}
use Rattle.serde_json.specs.View.{view}
use Rattle.rg_explain_wire.specs.Listing.{is_listed}
use Rattle.rg_explain_wire.specs.Printing.{told_data}
use Rattle.rg_explain_wire.proofs.print.policies_json.Given as goal

abbrev pub invariant-loop-told : goal.invariant-loop-told
invariant-loop-told l = map view l.made.items ≡ map told_data (filter (is_listed l.all) (take l.told-index l.explanation.policies.items))
