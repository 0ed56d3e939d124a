-- The maps of a zone for the service: what the rules say of them, and what is matched of them.
use Rattle.std.proofs.Common.{◌≡◌, ◌&&◌, ◌||◌, ℕ, Bool, true, false, not, if◌then◌else◌, List, [], ◌∷◌, map, Option, Some, None, refl, sym, ap, ◌∙◌}
use Rattle.std.proofs.lemmas.Bool.{and_parts, and_from}
use Rattle.std.proofs.lemmas.List.Folds.{list_all-map}
use Rattle.std.specs.List.{list_all, list_any}
use Rattle.std.specs.Str.{bytes_eq}
use Rattle.rg_base.specs.Listed.{Listed}
use Rattle.rg_base.specs.Texts.{is_name}
use Rattle.rg_base.proofs.Lists.{list_any-map}
use Rattle.rg_defs.specs.declared.service_def.Level.{Level}
use Rattle.rg_defs.specs.declared.service_def.ServiceDef.{ServiceDef}
use Rattle.rg_defs.specs.Paths.{level_of}
use Rattle.rg_pattern.specs.Atoms.{has_user}
use Rattle.rg_pattern.specs.Reading.{atoms_of, value_fits}
use Rattle.rg_policy.specs.declared.policy.PolicyResource.{PolicyResource}
use Rattle.rg_policy.specs.declared.policy.ResourceMap.{ResourceMap}
use Rattle.rg_policy.specs.declared.request.Element.{Element}
use Rattle.rg_resmatch.specs.declared.reach.Reach.TheVariants.{Down}
use Rattle.rg_resmatch.specs.Rules.{all_levels_fit, all_values_fit, is_some_text, levels_fit, supports, values_fit, values_fit_level}
use Rattle.rg_resmatch.specs.Tests.{lies, some_lies}
use Rattle.rg_zone_rules.specs.declared.row.ZoneLevel.{ZoneLevel}
use Rattle.rg_zone_rules.specs.declared.row.ZoneRow.{ZoneRow}
use Rattle.rg_zone_rules.specs.declared.row.ZoneService.{ZoneService}
use Rattle.rg_zone_rules.specs.Rules.{entry_levels_fit, entry_values_fit, is_some_map, level_values_fit, map_fits, map_levels_fit, map_values_fit, maps_fit, zone_levels_fit, zone_values_fit}
use Rattle.rg_zone_rules.specs.Zones.{entry_maps, in_zone, is_for, is_recursive, map_lies, maps_for, resource_map, service_lies, zone_maps, zone_resource, zone_resources}
use Rattle.rg_zone_rules.proofs.Levels.{levels_alike}
use Rattle.rg_zones.proofs.Members.{Has, agree_any, all_flat, all_has, any_flat, has_all}

-- ---- the values of a map

self_or : (b : Bool) → (not b || b) ≡ true
self_or true = refl
self_or false = refl

supported : (o : Option Level) (level : List ℕ) (values : Listed (List ℕ)) → supports o (record { level = level; values = values; excludes = false; recursive = is_recursive o }) ≡ true
supported None level values = refl
supported (Some l) level values = self_or l.recursive

are_names : (ts : List (List ℕ)) → list_all value_fits ts ≡ true → list_all is_name ts ≡ true
are_names [] h = refl
are_names (t ∷ ts) h =
    let p = and_parts (value_fits t) (list_all value_fits ts) h in
    and_from (is_name t) (list_all is_name ts) (and_parts (is_name t) (not (has_user (atoms_of false t))) p.0).0 (are_names ts p.1)

level_values : (def : ServiceDef) (l : ZoneLevel) → level_values_fit l ≡ true → values_fit_level def (zone_resource def l) ≡ true
level_values def l h =
    let p = and_parts (is_some_text l.values.items) (list_all value_fits l.values.items) h in
    and_from (is_some_text l.values.items) _ p.0
    (and_from (list_all is_name l.values.items) _ (are_names l.values.items p.1) (supported (level_of def l.level) l.level l.values))

all_values : (def : ServiceDef) (ls : List ZoneLevel) → list_all level_values_fit ls ≡ true → values_fit def (zone_resources def ls) ≡ true
all_values def [] h = refl
all_values def (l ∷ ls) h =
    let p = and_parts (level_values_fit l) (list_all level_values_fit ls) h in
    and_from (values_fit_level def (zone_resource def l)) (values_fit def (zone_resources def ls)) (level_values def l p.0) (all_values def ls p.1)

-- ---- the maps of a zone

fit_entry : (def : ServiceDef) (s : ZoneService) (b : Bool) → (not b || entry_levels_fit def s) ≡ true → (not b || entry_values_fit s) ≡ true → list_all (map_fits def) (if b then s.resources.items else []) ≡ true
fit_entry def s true h g =
    let levels = (and_parts (is_some_map s.resources.items) (list_all (map_levels_fit def) s.resources.items) h).1 in
    all_has (map_fits def) s.resources.items
    (λ m w. and_from (map_levels_fit def m) (map_values_fit m) (has_all (map_levels_fit def) s.resources.items levels m w) (has_all map_values_fit s.resources.items g m w))
fit_entry def s false h g = refl

-- the maps for the service pass the rules
pub fit_maps : (service : List ℕ) (def : ServiceDef) (zone : ZoneRow) → maps_fit service def zone ≡ true → (m : Listed ZoneLevel) → Has (maps_for service zone) m → map_fits def m ≡ true
fit_maps service def zone h =
    let both = and_parts (zone_levels_fit service def zone) (zone_values_fit service zone) h in
    has_all (map_fits def) (maps_for service zone)
    (all_flat (map_fits def) (entry_maps service) zone.services.items
    ∙ all_has (λ (s : ZoneService). list_all (map_fits def) (entry_maps service s)) zone.services.items
    (λ s w. fit_entry def s (is_for service s)
    (has_all (λ (s : ZoneService). not (is_for service s) || entry_levels_fit def s) zone.services.items both.0 s w)
    (has_all (λ (s : ZoneService). not (is_for service s) || entry_values_fit s) zone.services.items both.1 s w)))

pub fit_levels : (service : List ℕ) (def : ServiceDef) (zone : ZoneRow) → maps_fit service def zone ≡ true → all_levels_fit def false (zone_maps service def zone) ≡ true
fit_levels service def zone h =
    list_all-map (λ (m : ResourceMap). levels_fit def false m.levels.items) (resource_map def) (maps_for service zone)
    ∙ all_has (map_levels_fit def) (maps_for service zone) (λ m w. (and_parts (map_levels_fit def m) (map_values_fit m) (fit_maps service def zone h m w)).0)

pub fit_values : (service : List ℕ) (def : ServiceDef) (zone : ZoneRow) → maps_fit service def zone ≡ true → all_values_fit def (zone_maps service def zone) ≡ true
fit_values service def zone h =
    list_all-map (λ (m : ResourceMap). values_fit def m.levels.items) (resource_map def) (maps_for service zone)
    ∙ all_has (λ (m : Listed ZoneLevel). values_fit def (zone_resources def m.items)) (maps_for service zone)
    (λ m w. all_values def m.items (and_parts (map_levels_fit def m) (map_values_fit m) (fit_maps service def zone h m w)).1)

any_chosen : {X : Type 0} (p : X → Bool) (b : Bool) (xs : List X) → list_any p (if b then xs else []) ≡ (b && list_any p xs)
any_chosen p true xs = refl
any_chosen p false xs = refl

-- a zone has the resources on its maps for the service
pub in_maps : (service : List ℕ) (def : ServiceDef) (elements : List Element) (zone : ZoneRow) → in_zone service def elements zone ≡ list_any (map_lies def elements) (maps_for service zone)
in_maps service def elements zone = sym (any_flat (map_lies def elements) (entry_maps service) zone.services.items
    ∙ agree_any (λ (s : ZoneService). list_any (map_lies def elements) (entry_maps service s)) (service_lies service def elements) zone.services.items
    (λ s w. any_chosen (map_lies def elements) (bytes_eq s.service service) s.resources.items))

-- which are those that are matched
pub matched : (service : List ℕ) (def : ServiceDef) (zone : ZoneRow) (elements : List Element) → some_lies def (zone_maps service def zone) Down elements [] ≡ in_zone service def elements zone
matched service def zone elements =
    list_any-map (λ (m : ResourceMap). lies def m.levels.items Down elements []) (resource_map def) (maps_for service zone) ∙ sym (in_maps service def elements zone)
