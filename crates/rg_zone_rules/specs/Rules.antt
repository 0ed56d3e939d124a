-- The rules of zones, one by one. Each is asked of one zone and looks at no other.
use Rattle.std.specs.Prelude.{ℕ, ◌&&◌, ◌||◌, not, nat_le, Bool, true, false, List, [], ◌∷◌, length, map, if◌then◌else◌}
use Rattle.std.specs.List.{filter, list_all, list_any}
use Rattle.std.specs.Str.{bytes_eq}
use Rattle.rg_base.specs.Listed.{Listed}
use Rattle.rg_base.specs.Texts.{all_distinct, is_among, is_empty}
use Rattle.rg_defs.specs.declared.service_def.ServiceDef.{ServiceDef}
use Rattle.rg_pattern.specs.Reading.{value_fits}
use Rattle.rg_policy.specs.declared.policy.Policy.{Policy}
use Rattle.rg_resmatch.specs.Rules.{is_some_text, levels_fit}
use Rattle.rg_zone_rules.specs.declared.row.ZoneLevel.{ZoneLevel}
use Rattle.rg_zone_rules.specs.declared.row.ZoneRow.{ZoneRow}
use Rattle.rg_zone_rules.specs.declared.row.ZoneService.{ZoneService}
use Rattle.rg_zone_rules.specs.Zones.{is_for, zone_resources}

-- the zone lists the service: a tag service among its tag services, any other among its services
abbrev pub lists_service : Bool → List ℕ → ZoneRow → Bool
lists_service is_tag service zone = if is_tag then is_among service zone.tag_services.items else list_any (is_for service) zone.services.items

-- how often the service stands among the services, and among the tag services
abbrev pub times_listed : List ℕ → ZoneRow → ℕ
times_listed service zone = length (filter (is_for service) zone.services.items)

abbrev pub times_tagged : List ℕ → ZoneRow → ℕ
times_tagged service zone = length (filter (λ t. bytes_eq t service) zone.tag_services.items)

-- Z2, asked for one service: it is listed at most once, a tag service only among the tag services, any other only among the services
abbrev pub listing_fits : Bool → List ℕ → ZoneRow → Bool
listing_fits is_tag service zone = nat_le (times_listed service zone) (if is_tag then 0 else 1) && nat_le (times_tagged service zone) (if is_tag then 1 else 0)

-- the two names are the same
abbrev pub same_name : List ℕ → List ℕ → Bool
same_name x y = bytes_eq y x

abbrev pub service_names : ZoneRow → List (List ℕ)
service_names zone = map (λ (s : ZoneService). s.service) zone.services.items

-- Z2, its last part: no service is listed twice, no tag service is, and none is listed as both
abbrev pub lists_each_once : ZoneRow → Bool
lists_each_once zone = all_distinct same_name (service_names zone)
    && all_distinct same_name zone.tag_services.items
    && list_all (λ t. not (is_among t (service_names zone))) zone.tag_services.items

-- Z2: each service is one of these, which aren't of definition `tag`, each tag service is one of those, which are, and none is listed twice
abbrev pub services_fit : List (List ℕ) → List (List ℕ) → ZoneRow → Bool
services_fit services tag_services zone = list_all (λ (s : ZoneService). is_among s.service services) zone.services.items
    && list_all (λ name. is_among name tag_services) zone.tag_services.items
    && lists_each_once zone

-- Z3 for a map: its levels meet V5 without mandatory
abbrev pub map_levels_fit : ServiceDef → Listed ZoneLevel → Bool
map_levels_fit def m = levels_fit def false (zone_resources def m.items)

abbrev pub is_some_level : List ZoneLevel → Bool
is_some_level [] = false
is_some_level (l ∷ ls) = true

abbrev pub is_some_map : List (Listed ZoneLevel) → Bool
is_some_map [] = false
is_some_map (m ∷ ms) = true

-- Z3 for a service of the zone: there is a map, and the levels of each fit
abbrev pub entry_levels_fit : ServiceDef → ZoneService → Bool
entry_levels_fit def s = is_some_map s.resources.items && list_all (map_levels_fit def) s.resources.items

-- Z3, asked for one service
abbrev pub zone_levels_fit : List ℕ → ServiceDef → ZoneRow → Bool
zone_levels_fit service def zone = list_all (λ (s : ZoneService). not (is_for service s) || entry_levels_fit def s) zone.services.items

-- Z4 for a level: there is a value, and each is a pattern, which has 1 to 256 characters, without `{USER}`
abbrev pub level_values_fit : ZoneLevel → Bool
level_values_fit l = is_some_text l.values.items && list_all value_fits l.values.items

abbrev pub map_values_fit : Listed ZoneLevel → Bool
map_values_fit m = list_all level_values_fit m.items

-- Z3 and Z4 for a map
abbrev pub map_fits : ServiceDef → Listed ZoneLevel → Bool
map_fits def m = map_levels_fit def m && map_values_fit m

-- Z4 for a service of the zone
abbrev pub entry_values_fit : ZoneService → Bool
entry_values_fit s = list_all map_values_fit s.resources.items

-- Z4, asked for one service
abbrev pub zone_values_fit : List ℕ → ZoneRow → Bool
zone_values_fit service zone = list_all (λ (s : ZoneService). not (is_for service s) || entry_values_fit s) zone.services.items

-- Z3 and Z4, asked for one service
abbrev pub maps_fit : List ℕ → ServiceDef → ZoneRow → Bool
maps_fit service def zone = zone_levels_fit service def zone && zone_values_fit service zone

abbrev pub all_maps_fit : List ℕ → ServiceDef → List ZoneRow → Bool
all_maps_fit service def zones = list_all (maps_fit service def) zones

-- Z5: each role of the zone's admins and auditors is one of these
abbrev pub subjects_exist : List (List ℕ) → ZoneRow → Bool
subjects_exist roles zone = list_all (λ name. is_among name roles) zone.admins.roles.items
    && list_all (λ name. is_among name roles) zone.auditors.roles.items

-- the zone has this name and lists the service
abbrev pub is_zone_of : Bool → List ℕ → List ℕ → ZoneRow → Bool
is_zone_of is_tag service name zone = bytes_eq zone.name name && lists_service is_tag service zone

-- V14: the policy has no zone, or that of a zone which lists the service
abbrev pub policy_zone_fits : Bool → List ℕ → List ZoneRow → Policy → Bool
policy_zone_fits is_tag service zones p = is_empty p.zone || list_any (is_zone_of is_tag service p.zone) zones

-- V14 of a tag policy in facts: it has no zone, or that of some zone
abbrev pub tag_policy_zone_fits : List ZoneRow → Policy → Bool
tag_policy_zone_fits zones p = is_empty p.zone || list_any (λ (zone : ZoneRow). bytes_eq zone.name p.zone) zones
