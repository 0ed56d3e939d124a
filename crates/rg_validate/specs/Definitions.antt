-- The rules of definitions and services.
use Rattle.std.specs.Prelude.{ℕ, ◌&&◌, ◌||◌, ◌==◌, not, Bool, true, false, List, Option, Some, None, map, filter, is_none, if◌then◌else◌}
use Rattle.std.specs.List.{list_all, list_any}
use Rattle.std.specs.Str.{bytes_eq}
use Rattle.rg_base.specs.Texts.{is_among, is_empty, is_name}
use Rattle.rg_policy.specs.declared.policy.Policy.{Policy}
use Rattle.rg_defs.specs.Rules.{rules_of, tag_name}
use Rattle.rg_defs.specs.declared.service_def.ServiceDef.{ServiceDef}
use Rattle.rg_cond.specs.PolicyRules.{conditions_compile}
use Rattle.rg_items.specs.PolicyRules.{entries_fit, lists_fit, outcomes_fit, type_fits}
use Rattle.rg_resmatch.specs.Rules.{policy_levels_fit, policy_values_fit, tagged_fit}
use Rattle.rg_tags.specs.declared.row.TagRow.{TagRow}
use Rattle.rg_zone_rules.specs.Overlap.{first_overlap}
use Rattle.rg_zone_rules.specs.Rules.{all_maps_fit, lists_service}
use Rattle.rg_zone_rules.specs.declared.row.ZoneRow.{ZoneRow}
use Rattle.rg_cmd.specs.Lookups.{has_def, is_of, is_row_of, is_service, is_tag_service, service_at}
use Rattle.rg_cmd.specs.declared.rule.Rule.{Rule}
use Rattle.rg_cmd.specs.declared.rule.Rule.TheVariants.{S1, S2, S3, S4, S5, S6, S7, S8}
use Rattle.rg_cmd.specs.declared.state.ServiceRow.{ServiceRow}
use Rattle.rg_cmd.specs.declared.state.State.{State}
use Rattle.rg_validate.specs.Failing.{Tested}

-- what is asked under a definition fails where there is none
abbrev pub under : Option ServiceDef → (ServiceDef → Bool) → Bool
under None test = false
under (Some def) test = test def

-- ---- definitions

-- the rule of this number, of the eight of a definition
abbrev pub definition_rule : ℕ → Rule
definition_rule n = if n == 1 then S1 else (if n == 2 then S2 else (if n == 3 then S3 else (if n == 4 then S4 else (if n == 5 then S5 else (if n == 6 then S6 else (if n == 7 then S7 else S8))))))

-- S1 to S8
abbrev pub definition_rules : ServiceDef → List Tested
definition_rules def = map (λ (r : ℕ × Bool). (definition_rule r.0, r.1)) (rules_of def)

-- V3, V5 to V9 and V11 of a policy under the definition
abbrev pub policy_suits : ServiceDef → Policy → Bool
policy_suits def p = type_fits def p
    && (policy_levels_fit def p
    && (policy_values_fit def p
    && (lists_fit p
    && (entries_fit def p
    && (conditions_compile def p
    && outcomes_fit def p)))))

-- Z3, Z4 and Z6 of the zones under the definition of the service
abbrev pub zones_suit : ServiceDef → List ZoneRow → List ℕ → Bool
zones_suit def zones service = all_maps_fit service def zones && is_none (first_overlap service def zones)

-- the services of this definition
abbrev pub names_with : State → List ℕ → List (List ℕ)
names_with s def = map (λ (row : ServiceRow). row.name) (filter (λ (row : ServiceRow). bytes_eq row.def def) s.services.items)

-- the policies, zones and tag rows of these services pass under the definition
abbrev pub services_suit : State → ServiceDef → List (List ℕ) → Bool
services_suit s def services = list_all (λ (p : Policy). not (is_among p.service services) || policy_suits def p) s.policies.items
    && (list_all (λ (row : TagRow). not (is_among row.service services) || tagged_fit def row.resources.items) s.tag_rows.items
    && list_all (zones_suit def s.zones.items) services)

-- C1: every policy, zone and tag row of services of that definition passes V3, V5 to V9, V11, Z3, Z4, Z6 and G2 under the new one
unfoldable pub definition_suits : State → ServiceDef → Bool
definition_suits s def = services_suit s def (names_with s def.name)

-- ---- services

-- C2: the name has 1 to 256 characters, and no service has it
abbrev pub service_name_is_new : State → List ℕ → Bool
service_name_is_new s name = is_name name && not (list_any (is_service name) s.services.items)

-- C3: there is no tag service, or it names a service of definition `tag` and the service itself has another definition
abbrev pub tag_service_fits : State → ServiceRow → Bool
tag_service_fits s row = is_empty row.tag_service || (is_tag_service s row.tag_service && not (bytes_eq row.def tag_name))

-- C4: the definition is as before
abbrev pub keeps_definition : State → ServiceRow → Bool
keeps_definition s row = has_def row.def (service_at s row.name)

-- the zone names the service, as a service or as a tag service
abbrev pub names_service : List ℕ → ZoneRow → Bool
names_service service zone = lists_service false service zone || lists_service true service zone

-- C5: the service isn't the plugin's; no policy, tag row or zone names it; no service has it as tag service
abbrev pub service_is_unused : State → List ℕ → Bool
service_is_unused s name = not (bytes_eq s.plugin name)
    && (not (list_any (is_of name) s.policies.items)
    && (not (list_any (is_row_of name) s.tag_rows.items)
    && (not (list_any (names_service name) s.zones.items)
    && not (list_any (λ (row : ServiceRow). bytes_eq row.tag_service name) s.services.items))))

-- C6: the plugin's service isn't of definition `tag`
abbrev pub plugin_fits : State → Bool
plugin_fits s = not (is_tag_service s s.plugin)
