-- The rules of zones.
use Rattle.std.specs.Prelude.{ℕ, ◌||◌, not, Bool, List, map, filter, is_none}
use Rattle.std.specs.List.{list_all, list_any}
use Rattle.std.specs.Str.{bytes_eq}
use Rattle.rg_policy.specs.declared.policy.Policy.{Policy}
use Rattle.rg_defs.specs.Rules.{tag_name}
use Rattle.rg_roles.specs.Members.{names_of}
use Rattle.rg_zone_rules.specs.Overlap.{first_overlap}
use Rattle.rg_zone_rules.specs.Rules.{entry_levels_fit, entry_values_fit, lists_service, services_fit, subjects_exist}
use Rattle.rg_zone_rules.specs.declared.row.ZoneRow.{ZoneRow}
use Rattle.rg_zone_rules.specs.declared.row.ZoneService.{ZoneService}
use Rattle.rg_cmd.specs.Lists.{put}
use Rattle.rg_cmd.specs.Lookups.{def_of, is_tag_service, is_zone}
use Rattle.rg_cmd.specs.declared.state.ServiceRow.{ServiceRow}
use Rattle.rg_cmd.specs.declared.state.State.{State}
use Rattle.rg_validate.specs.Definitions.{names_with, under}

-- the services of another definition than `tag`
abbrev pub plain_services : State → List (List ℕ)
plain_services s = map (λ (row : ServiceRow). row.name) (filter (λ (row : ServiceRow). not (bytes_eq row.def tag_name)) s.services.items)

-- the services of definition `tag`
abbrev pub tag_services : State → List (List ℕ)
tag_services s = names_with s tag_name

-- Z2: each service exists and isn't of definition `tag`, each tag service exists and is, none is listed twice
abbrev pub zone_services_fit : State → ZoneRow → Bool
zone_services_fit s zone = services_fit (plain_services s) (tag_services s) zone

-- Z3: each service has at least one resource map, whose levels meet V5 without mandatory
abbrev pub zone_levels_suit : State → ZoneRow → Bool
zone_levels_suit s zone = list_all (λ (e : ZoneService). under (def_of s e.service) (λ def. entry_levels_fit def e)) zone.services.items

-- Z4: each level has at least one value, each is a pattern and has no `{USER}`
abbrev pub zone_values_suit : ZoneRow → Bool
zone_values_suit zone = list_all entry_values_fit zone.services.items

-- Z5: each role of the admins and auditors exists
abbrev pub zone_subjects_exist : State → ZoneRow → Bool
zone_subjects_exist s zone = subjects_exist (names_of s.roles.items) zone

-- no two of the zones overlap for the service
unfoldable pub are_apart_for : State → List ZoneRow → List ℕ → Bool
are_apart_for s zones service = under (def_of s service) (λ def. is_none (first_overlap service def zones))

-- no two of the zones overlap for any service
unfoldable pub are_apart : State → List ZoneRow → Bool
are_apart s zones = list_all (λ (row : ServiceRow). are_apart_for s zones row.name) s.services.items

-- the zones with this one in its place
abbrev pub zones_with : State → ZoneRow → List ZoneRow
zones_with s zone = put (is_zone zone.name) zone s.zones.items

-- Z6: with this zone in place no two zones overlap for any service
abbrev pub zone_is_apart : State → ZoneRow → Bool
zone_is_apart s zone = are_apart s (zones_with s zone)

-- a policy with the zone's name has its service among the zone's, a tag service among its tag services
abbrev pub zone_keeps : State → ZoneRow → Policy → Bool
zone_keeps s zone p = not (bytes_eq p.zone zone.name) || lists_service (is_tag_service s p.service) p.service zone

-- Z7: every policy with this zone's name has its service among the zone's
abbrev pub zone_keeps_policies : State → ZoneRow → Bool
zone_keeps_policies s zone = list_all (zone_keeps s zone) s.policies.items

-- Z8: no policy has this zone's name
abbrev pub zone_is_unused : State → List ℕ → Bool
zone_is_unused s name = not (list_any (λ (p : Policy). bytes_eq p.zone name) s.policies.items)
