use Rattle.std.proofs.Common.{◌≡◌, IfOk, ap, sym, subst, ◌∙◌}
use Rattle.std.proofs.lemmas.Iterator.Adapters.{position_from-zero}
use Rattle.std.specs.List.{position_from}
use Rattle.rg_zone_rules.specs.Zones.{maps_for, resource_map, zone_maps}
use Rattle.rg_standing.proofs.Tests.{position-map}
use Rattle.rg_explain.specs.Explaining.{map_place}
use Rattle.rg_explain.specs.Parts.{reaches}
use Rattle.rg_explain.proofs.zoning.map_place.Goals as goal

pub returns : goal.returns
returns c =
    let facts = c.args.facts.now in
    let q = c.args.request.now in
    let zone = c.args.zone.now in
    let test = reaches facts.def q.resource.elements.items in
    let maps : c.as_slice.result.now ≡ zone_maps facts.service facts.def zone =
    c.as_slice.ensures.value ∙ c.in_ok-maps.ensures ∙ ap (λ s. zone_maps s facts.def zone) c.as_str.ensures.read in
    let place : position_from (reaches facts.def c.as_slice-elements.result.now) 0 c.as_slice.result.now ≡ map_place facts q zone =
    (λ i. position_from (reaches facts.def (c.as_slice-elements.ensures i)) 0 (maps i))
    ∙ sym (position_from-zero test (zone_maps facts.service facts.def zone))
    ∙ position-map test (resource_map facts.def) (maps_for facts.service zone) in
    subst (λ p. IfOk c.first_reaching.result (λ o. o ≡ p)) place c.first_reaching.ensures
