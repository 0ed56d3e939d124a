use Rattle.std.proofs.Common.{◌≡◌, rules, [], None, Contains, position, true, ap, subst, sym, ◌∙◌}
use Rattle.rg_index.specs.Indexed.{Indexed}
use Rattle.rg_index.specs.declared.form.Form.{Form}
use Rattle.rg_resmatch.specs.Tests.{some_lies}
use Rattle.rg_zones.specs.Matched.{is_matched, rows_of}
use Rattle.rg_zones.specs.Places.{AreNamed}
use Rattle.rg_zone_rules.specs.Zones.{in_zone, zone_of}
use Rattle.rg_zones.specs.Zoning.{Zoning}
use Rattle.rg_zones.proofs.Finding.{same_place}
use Rattle.rg_zones.proofs.Places.{all_named}
use Rattle.rg_zones.proofs.map.ZoneMap.zone_of.Goals as goal

pub first_place-requires : goal.first_place-requires
first_place-requires c =
    let elements = c.args.resource.now.elements.items in
    let zones = c.self.inside.zones.items in
    subst (λ zs. AreNamed (is_matched elements) zs c.candidates.result) (sym c.deref.ensures.value)
    (all_named c.self.inside.service c.self.inside.def.value elements zones c.candidates.result (c.self.invariant.1 elements)
    (λ (form : Form) there lies. c.candidates.ensures.all form [] (subst (λ (x : Indexed). Contains x.forms form) (sym c.self.invariant.2) there) (subst (λ (x : Indexed). some_lies x.def form.maps.items form.reach elements [] ≡ true) (sym c.self.invariant.2) lies)))

pub returns-in_err-place : goal.returns-in_err-place
returns-in_err-place c =
    let elements = c.args.resource.now.elements.items in
    let service = c.self.inside.service in
    let def = c.self.inside.def.value in
    let zones = c.self.inside.zones.items in
    let seen : zone_of service def (rows_of zones) elements ≡ zone_of c.args.self.now.service c.args.self.now.def c.args.self.now.zones elements =
    ap (λ (z : Zoning). zone_of z.service z.def z.zones elements) c.self.view_is in
    let first : position (is_matched elements) zones ≡ zone_of service def (rows_of zones) elements =
    same_place (is_matched elements) (in_zone service def elements) zones (rows_of zones) (c.self.invariant.1 elements) in
    let none : None ≡ zone_of c.args.self.now.service c.args.self.now.def c.args.self.now.zones elements =
    c.in_err-place.ensures.first ∙ ap (position (is_matched elements)) c.deref.ensures.value ∙ first ∙ seen in
    search (rules, none)

pub returns : goal.returns
returns c =
    let elements = c.args.resource.now.elements.items in
    let service = c.self.inside.service in
    let def = c.self.inside.def.value in
    let zones = c.self.inside.zones.items in
    let seen : zone_of service def (rows_of zones) elements ≡ zone_of c.args.self.now.service c.args.self.now.def c.args.self.now.zones elements =
    ap (λ (z : Zoning). zone_of z.service z.def z.zones elements) c.self.view_is in
    let first : position (is_matched elements) zones ≡ zone_of service def (rows_of zones) elements =
    same_place (is_matched elements) (in_zone service def elements) zones (rows_of zones) (c.self.invariant.1 elements) in
    c.in_ok-place.ensures.first ∙ ap (position (is_matched elements)) c.deref.ensures.value ∙ first ∙ seen
