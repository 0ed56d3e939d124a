use Rattle.std.proofs.Common.{◌≡◌, ◌≤◌, filter, length, take}
use Rattle.rg_explain_wire.specs.Listing.{is_far}
use Rattle.rg_explain_wire.proofs.listing.far_count.Given as goal

abbrev pub invariant-loop-told : goal.invariant-loop-told
invariant-loop-told l = record {
  counted : l.count ≡ length (filter is_far (take l.told-index l.explanation.policies.items));
  few : l.count ≤ l.told-index;
}
