-- The rules of policies that look at the state. Those of one policy by itself stand in rg_items, rg_resmatch and rg_cond.
use Rattle.std.specs.Prelude.{◌&&◌, ◌||◌, not, Bool, true, List, [], ◌∷◌, Option, Some, None, option_and_then}
use Rattle.std.specs.List.{list_any}
use Rattle.std.specs.Str.{bytes_eq}
use Rattle.rg_base.specs.Texts.{is_name}
use Rattle.rg_base.specs.declared.numbers.PolicyId.{PolicyId}
use Rattle.rg_policy.specs.declared.policy.Policy.{Policy}
use Rattle.rg_defs.specs.declared.service_def.ServiceDef.{ServiceDef}
use Rattle.rg_cond.specs.PolicyRules.{conditions_compile, schedules_read}
use Rattle.rg_items.specs.PolicyRules.{entries_fit, lists_fit, outcomes_fit, priority_fits, subjects_fit, type_fits}
use Rattle.rg_resmatch.specs.Rules.{policy_levels_fit, policy_values_fit}
use Rattle.rg_roles.specs.Members.{names_of}
use Rattle.rg_zone_rules.specs.Rules.{policy_zone_fits}
use Rattle.rg_cmd.specs.Lookups.{has_id, is_tag_service, policy_at}
use Rattle.rg_cmd.specs.declared.rule.Rule.TheVariants.{V1, V2, V3, V4, V5, V6, V7, V8, V9, V10, V11, V12, V13, V14}
use Rattle.rg_cmd.specs.declared.state.State.{State}
use Rattle.rg_validate.specs.Failing.{Tested}
use Rattle.rg_same_resources.specs.Twins.{is_twin, same_place}

-- the policy is another one than that which is updated, if one is
abbrev pub is_other : Option PolicyId → Policy → Bool
is_other None q = true
is_other (Some id) q = not (has_id id.0 q)

-- the other policy has the same name, service and zone
abbrev pub is_namesake : Policy → Policy → Bool
is_namesake p q = bytes_eq q.name p.name && same_place p q

-- V2: no other policy of the service and zone has the name
abbrev pub policy_name_is_new : State → Option PolicyId → Policy → Bool
policy_name_is_new s updated p = not (list_any (λ (q : Policy). is_other updated q && is_namesake p q) s.policies.items)

-- V10: each item names a user, a group or a role, and each role exists
abbrev pub policy_subjects_fit : State → Policy → Bool
policy_subjects_fit s p = subjects_fit (names_of s.roles.items) p

-- V13: if the policy is enabled, no other enabled one of its service, zone, type, priority and schedules has the same maps
unfoldable pub has_no_twin : State → Option PolicyId → Policy → Bool
has_no_twin s updated p = not p.enabled || not (list_any (λ (q : Policy). is_other updated q && is_twin p q) s.policies.items)

-- the service and the zone are those of the old form, if there is one
abbrev pub stays_in : Option Policy → Policy → Bool
stays_in None p = true
stays_in (Some old) p = same_place old p

abbrev pub old_form : State → Option PolicyId → Option Policy
old_form s updated = option_and_then (λ (id : PolicyId). policy_at s id.0) updated

-- the policy has no zone, or one that lists its service
abbrev pub zone_fits : State → Policy → Bool
zone_fits s p = policy_zone_fits (is_tag_service s p.service) p.service s.zones.items p

-- V14: zone_fits, and on update the service and the zone are as before
abbrev pub policy_place_fits : State → Option PolicyId → Policy → Bool
policy_place_fits s updated p = zone_fits s p && stays_in (old_form s updated) p

-- V1 to V14 under the definition of the policy's service, of a new policy, or of the new form of the policy that is updated
abbrev pub policy_rules : State → Option PolicyId → Policy → ServiceDef → List Tested
policy_rules s updated p def =
    (V1, is_name p.name)
    ∷ (V2, policy_name_is_new s updated p)
    ∷ (V3, type_fits def p)
    ∷ (V4, priority_fits p)
    ∷ (V5, policy_levels_fit def p)
    ∷ (V6, policy_values_fit def p)
    ∷ (V7, lists_fit p)
    ∷ (V8, entries_fit def p)
    ∷ (V9, conditions_compile def p)
    ∷ (V10, policy_subjects_fit s p)
    ∷ (V11, outcomes_fit def p)
    ∷ (V12, schedules_read s.time_zones.items p)
    ∷ (V13, has_no_twin s updated p)
    ∷ (V14, policy_place_fits s updated p) ∷ []
