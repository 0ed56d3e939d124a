-- When a state is valid, and what else an administration keeps.
use Rattle.std.specs.Prelude.{◌≡◌, ◌+◌, pos, int_lt, ◌&&◌, Bool, true, Some, is_none}
use Rattle.std.specs.List.{list_all, list_any}
use Rattle.std.specs.Ordering.{int_eq}
use Rattle.std.specs.Str.{bytes_eq}
use Rattle.rg_base.specs.Texts.{all_distinct}
use Rattle.rg_policy.specs.declared.policy.Policy.{Policy}
use Rattle.rg_cond.specs.PolicyRules.{schedules_read}
use Rattle.rg_defs.specs.Rules.{def_fault}
use Rattle.rg_defs.specs.declared.service_def.ServiceDef.{ServiceDef}
use Rattle.rg_items.specs.PolicyRules.{priority_fits}
use Rattle.rg_roles.specs.Faults.{fault_of}
use Rattle.rg_tags.specs.Rules.{tags_fit}
use Rattle.rg_tags.specs.declared.row.TagRow.{TagRow}
use Rattle.rg_zone_rules.specs.declared.row.ZoneRow.{ZoneRow}
use Rattle.rg_cmd.specs.Lookups.{def_of, is_def, is_service}
use Rattle.rg_cmd.specs.declared.state.ServiceRow.{ServiceRow}
use Rattle.rg_cmd.specs.declared.state.State.{State}
use Rattle.rg_cmd.specs.declared.state.UserRow.{UserRow}
use Rattle.rg_validate.specs.Definitions.{plugin_fits, policy_suits, tag_service_fits, under}
use Rattle.rg_validate.specs.Policies.{has_no_twin, policy_subjects_fit, zone_fits}
use Rattle.rg_validate.specs.Tags.{tagged_resources_fit, tagged_service_fits}
use Rattle.rg_validate.specs.Users.{time_zones_read}
use Rattle.rg_validate.specs.Zones.{are_apart, zone_levels_suit, zone_services_fit, zone_subjects_exist, zone_values_suit}

-- S1 to S8
abbrev pub definition_valid : ServiceDef → Bool
definition_valid def = is_none (def_fault def)

-- E3 and C3
abbrev pub service_valid : State → ServiceRow → Bool
service_valid s row = list_any (is_def row.def) s.defs.items && tag_service_fits s row

-- E1, V3 to V12 and V14
abbrev pub policy_valid : State → Policy → Bool
policy_valid s p = under (def_of s p.service) (λ def. policy_suits def p)
    && (priority_fits p
    && (policy_subjects_fit s p
    && (schedules_read s.time_zones.items p
    && zone_fits s p)))

-- Z2 to Z5
abbrev pub zone_valid : State → ZoneRow → Bool
zone_valid s zone = zone_services_fit s zone
    && (zone_levels_suit s zone
    && (zone_values_suit zone
    && zone_subjects_exist s zone))

-- E1 and G1 to G3
abbrev pub tag_row_valid : State → TagRow → Bool
tag_row_valid s row = tagged_service_fits s row && (tagged_resources_fit s row && tags_fit row.tags.items)

-- the state is valid
pub record IsValid (s : State) : Type 0 where
  -- S1 to S8 of each definition
  pub definitions : list_all definition_valid s.defs.items ≡ true
  -- E3 and C3 of each service
  pub services : list_all (service_valid s) s.services.items ≡ true
  -- E1, V3 to V12 and V14 of each policy
  pub policies : list_all (policy_valid s) s.policies.items ≡ true
  -- Z2 to Z5 of each zone
  pub zones : list_all (zone_valid s) s.zones.items ≡ true
  -- Z6
  pub apart : are_apart s s.zones.items ≡ true
  -- E1 and G1 to G3 of each tag row
  pub tag_rows : list_all (tag_row_valid s) s.tag_rows.items ≡ true
  -- U2
  pub time_zones : time_zones_read s ≡ true
  -- the roles have distinct names, name roles that are there, and go in no circle
  pub roles : is_none (fault_of s.roles.items) ≡ true
  -- no two have one name
  pub definition_names : all_distinct (λ (a b : ServiceDef). bytes_eq b.name a.name) s.defs.items ≡ true
  pub service_names : all_distinct (λ (a b : ServiceRow). bytes_eq b.name a.name) s.services.items ≡ true
  pub zone_names : all_distinct (λ (a b : ZoneRow). bytes_eq b.name a.name) s.zones.items ≡ true
  pub user_names : all_distinct (λ (a b : UserRow). bytes_eq b.name a.name) s.users.items ≡ true
  -- no two have one id
  pub policy_ids : all_distinct (λ (p q : Policy). int_eq p.id.0 q.id.0) s.policies.items ≡ true
  pub tag_row_ids : all_distinct (λ (a b : TagRow). int_eq a.id b.id) s.tag_rows.items ≡ true

-- the last six of these clauses
abbrev pub are_distinct : State → Bool
are_distinct s = all_distinct (λ (a b : ServiceDef). bytes_eq b.name a.name) s.defs.items
    && (all_distinct (λ (a b : ServiceRow). bytes_eq b.name a.name) s.services.items
    && (all_distinct (λ (a b : ZoneRow). bytes_eq b.name a.name) s.zones.items
    && (all_distinct (λ (a b : UserRow). bytes_eq b.name a.name) s.users.items
    && (all_distinct (λ (p q : Policy). int_eq p.id.0 q.id.0) s.policies.items
    && all_distinct (λ (a b : TagRow). int_eq a.id b.id) s.tag_rows.items))))

-- V13 of the policy as it stands
abbrev pub policy_is_single : State → Policy → Bool
policy_is_single s p = has_no_twin s (Some p.id) p

-- the id is at least 1, and was given
abbrev pub is_given : State → Policy → Bool
is_given s p = int_lt (pos 0) p.id.0 && int_lt p.id.0 s.next_id

-- what an administration keeps beyond validity
pub record IsKept (s : State) : Type 0 where
  pub valid : IsValid s
  -- V13 of each policy
  pub single : list_all (policy_is_single s) s.policies.items ≡ true
  pub given : list_all (is_given s) s.policies.items ≡ true
  pub tag_rows_given : list_all (λ (row : TagRow). int_lt (pos 0) row.id) s.tag_rows.items ≡ true
  -- the first id is 1, and each entry gives at most one
  pub next_id : (int_lt (pos 0) s.next_id && int_lt s.next_id (pos (s.count + 2))) ≡ true
  -- the plugin's service exists and passes C6
  pub plugin : (list_any (is_service s.plugin) s.services.items && plugin_fits s) ≡ true
