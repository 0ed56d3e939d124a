-- The computed test of two zones decides whether they overlap.
use Rattle.std.proofs.Common.{◌≡◌, ℕ, Bool, true, false, if◌then◌else◌, List, [], refl, sym, ◌∙◌}
use Rattle.std.proofs.lemmas.List.Folds.{list_all-map}
use Rattle.std.specs.List.{list_all, list_any}
use Rattle.rg_base.specs.Listed.{Listed}
use Rattle.rg_defs.specs.declared.service_def.ServiceDef.{ServiceDef}
use Rattle.rg_policy.specs.declared.request.Element.{Element}
use Rattle.rg_zone_rules.specs.declared.row.ZoneLevel.{ZoneLevel}
use Rattle.rg_zone_rules.specs.declared.row.ZoneRow.{ZoneRow}
use Rattle.rg_zone_rules.specs.declared.row.ZoneService.{ZoneService}
use Rattle.rg_zone_rules.specs.Overlap.{ZonesOverlap, form_scalars, map_patterns, map_texts, maps_overlap, zone_patterns, zone_scalars, zone_texts, zones_overlap}
use Rattle.rg_zone_rules.specs.Rules.{maps_fit}
use Rattle.rg_zone_rules.specs.Zones.{entry_maps, in_zone, is_for, map_lies, maps_for}
use Rattle.rg_zones.proofs.Fitting.{fit_maps, in_maps}
use Rattle.rg_zones.proofs.Forms.{TwinScalars, TwinUser, form_lies, form_of, known, lies_same, scalars_of}
use Rattle.rg_zones.proofs.Found.{FoundLaw, TextLaw, forms_found}
use Rattle.rg_zones.proofs.Members.{Has, all_flat, all_has, any_has, has_all, has_any}
use Rattle.rg_zones.proofs.Shown.{ShownLaw, StandsLaw, forms_shown}

all_chosen : {X : Type 0} (p : X → Bool) (b : Bool) (xs : List X) → list_all p xs ≡ true → list_all p (if b then xs else []) ≡ true
all_chosen p true xs h = h
all_chosen p false xs h = refl

text_maps : (service : List ℕ) (zone : ZoneRow) → zone_texts zone ≡ true → (m : Listed ZoneLevel) → Has (maps_for service zone) m → map_texts m ≡ true
text_maps service zone h = has_all map_texts (maps_for service zone)
    (all_flat map_texts (entry_maps service) zone.services.items
    ∙ all_has (λ (s : ZoneService). list_all map_texts (entry_maps service s)) zone.services.items
    (λ s w. all_chosen map_texts (is_for service s) s.resources.items (has_all (λ (s : ZoneService). list_all map_texts s.resources.items) zone.services.items h s w)))

pub scalars_from : TwinScalars → (service : List ℕ) (def : ServiceDef) (zone : ZoneRow) → zone_texts zone ≡ true → zone_scalars (zone_patterns service def zone) ≡ true
scalars_from law service def zone h =
    list_all-map form_scalars (map_patterns def) (maps_for service zone)
    ∙ all_has (λ (m : Listed ZoneLevel). form_scalars (map_patterns def m)) (maps_for service zone) (λ m w. scalars_of law def m (text_maps service zone h m w))

pub zones_shown : StandsLaw → ShownLaw → TwinUser → (service : List ℕ) (def : ServiceDef) (a b : ZoneRow) → maps_fit service def a ≡ true → maps_fit service def b ≡ true
    → ZonesOverlap service def a b → zones_overlap service def a b ≡ true
zones_shown stand shown twins service def a b fa fb z =
    let m = has_any (map_lies def z.elements) (maps_for service a) (sym (in_maps service def z.elements a) ∙ z.first) in
    let n = has_any (map_lies def z.elements) (maps_for service b) (sym (in_maps service def z.elements b) ∙ z.second) in
    let fm = fit_maps service def a fa m.0 m.1 in
    let fn = fit_maps service def b fb n.0 n.1 in
    any_has (λ m. list_any (maps_overlap def m) (maps_for service b)) (maps_for service a) m.0 m.1
    (any_has (maps_overlap def m.0) (maps_for service b) n.0 n.1
    (forms_shown stand shown def (map_patterns def m.0) (map_patterns def n.0) (form_of twins def m.0 fm) (form_of twins def n.0 fn) z.elements z.texts
    (sym (lies_same def m.0 z.elements (known def m.0 fm)) ∙ m.2) (sym (lies_same def n.0 z.elements (known def n.0 fn)) ∙ n.2)))

map_scalars : (service : List ℕ) (def : ServiceDef) (zone : ZoneRow) → zone_scalars (zone_patterns service def zone) ≡ true → (m : Listed ZoneLevel) → Has (maps_for service zone) m
    → form_scalars (map_patterns def m) ≡ true
map_scalars service def zone s = has_all (λ (m : Listed ZoneLevel). form_scalars (map_patterns def m)) (maps_for service zone) (sym (list_all-map form_scalars (map_patterns def) (maps_for service zone)) ∙ s)

-- a resource on one of the maps lies in the zone
in_zone_from : (service : List ℕ) (def : ServiceDef) (zone : ZoneRow) → maps_fit service def zone ≡ true → (elements : List Element) (m : Listed ZoneLevel) → Has (maps_for service zone) m
    → form_lies def.levels.items (map_patterns def m) elements ≡ true → in_zone service def elements zone ≡ true
in_zone_from service def zone fit elements m w h =
    in_maps service def elements zone
    ∙ any_has (map_lies def elements) (maps_for service zone) m w (lies_same def m elements (known def m (fit_maps service def zone fit m w)) ∙ h)

pub zones_found : StandsLaw → FoundLaw → TextLaw → TwinUser → (service : List ℕ) (def : ServiceDef) (a b : ZoneRow) → maps_fit service def a ≡ true → maps_fit service def b ≡ true
    → zone_scalars (zone_patterns service def a) ≡ true → zone_scalars (zone_patterns service def b) ≡ true → zones_overlap service def a b ≡ true → ZonesOverlap service def a b
zones_found stand found some twins service def a b fa fb sa sb h =
    let m = has_any (λ m. list_any (maps_overlap def m) (maps_for service b)) (maps_for service a) h in
    let n = has_any (maps_overlap def m.0) (maps_for service b) m.2 in
    let fm = fit_maps service def a fa m.0 m.1 in
    let fn = fit_maps service def b fb n.0 n.1 in
    let scalars = λ (zone : ZoneRow) (s : zone_scalars (zone_patterns service def zone) ≡ true).
    has_all (λ (m : Listed ZoneLevel). form_scalars (map_patterns def m)) (maps_for service zone) (sym (list_all-map form_scalars (map_patterns def) (maps_for service zone)) ∙ s) in
    let r = forms_found stand found some def (map_patterns def m.0) (map_patterns def n.0) (form_of twins def m.0 fm) (form_of twins def n.0 fn) (map_scalars service def a sa m.0 m.1) (map_scalars service def b sb n.0 n.1) n.2 in
    record {
      elements = r.0;
      texts = r.1;
      first = in_zone_from service def a fa r.0 m.0 m.1 r.2;
      second = in_zone_from service def b fb r.0 n.0 n.1 r.3;
    }
