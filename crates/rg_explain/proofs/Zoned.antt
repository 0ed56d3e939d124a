-- The zone in which a resource lies has a map that reaches down to it.
use Rattle.std.proofs.Common.{◌≡◌, true, Some, IsSome, slice_get, position, ap, sym, ◌∙◌}
use Rattle.std.proofs.lemmas.List.Quantifiers.{position-Some}
use Rattle.std.proofs.lemmas.Option.{get_or_from_slice_get, option_and_then_some}
use Rattle.rg_policy.specs.declared.request.AccessRequest.{AccessRequest}
use Rattle.rg_zone_rules.specs.declared.row.ZoneRow.{ZoneRow}
use Rattle.rg_zone_rules.specs.Zones.{in_zone, map_lies, maps_for}
use Rattle.rg_zones.proofs.Fitting.{in_maps}
use Rattle.rg_facts.specs.Candidates.{zone_at}
use Rattle.rg_facts.specs.declared.facts.Facts.{Facts}
use Rattle.rg_standing.proofs.Tests.{some_place}
use Rattle.rg_explain.specs.Explaining.{map_place}

lies_there : (facts : Facts) (q : AccessRequest) (zone : ZoneRow) → zone_at facts q ≡ Some zone → in_zone facts.service facts.def q.resource.elements.items zone ≡ true
lies_there facts q zone e =
    let zones = facts.zones.items in
    let test = in_zone facts.service facts.def q.resource.elements.items in
    option_and_then_some (slice_get zones) (position test zones) zone e (λ k at gives.
    ap test (sym (get_or_from_slice_get zones k zone zone gives)) ∙ (position-Some test zones k zone at).1)

pub map_found : (facts : Facts) (q : AccessRequest) (zone : ZoneRow) → zone_at facts q ≡ Some zone → IsSome (map_place facts q zone)
map_found facts q zone e =
    let elements = q.resource.elements.items in
    some_place (map_lies facts.def elements) (maps_for facts.service zone)
    ∙ sym (in_maps facts.service facts.def elements zone)
    ∙ lies_there facts q zone e
