-- For proofs alone: policies and tag rows that are put or taken away keep a state valid.
use Rattle.std.proofs.Common.{◌≡◌, ℤ, true, ◌∷◌, Option, Some, None, refl, sym, subst}
use Rattle.std.proofs.lemmas.Bool.{and_from, and_parts}
use Rattle.rg_base.specs.declared.numbers.PolicyId.{PolicyId}
use Rattle.rg_base.specs.declared.numbers.Version.{Version}
use Rattle.rg_policy.specs.declared.policy.Policy.{Policy}
use Rattle.rg_cond.specs.PolicyRules.{conditions_compile, schedules_read}
use Rattle.rg_defs.specs.declared.service_def.ServiceDef.{ServiceDef}
use Rattle.rg_items.specs.PolicyRules.{entries_fit, lists_fit, outcomes_fit, priority_fits, type_fits}
use Rattle.rg_resmatch.specs.Rules.{policy_levels_fit, policy_values_fit}
use Rattle.rg_tags.specs.Rules.{tags_fit}
use Rattle.rg_tags.specs.declared.row.TagRow.{TagRow}
use Rattle.rg_cmd.specs.Lookups.{def_of}
use Rattle.rg_cmd.specs.declared.ask.AdminCommand.TheVariants.{CreatePolicy, PutTags, UpdatePolicy}
use Rattle.rg_cmd.specs.declared.rule.Rule.TheVariants.{G1, G2, G3, V10, V11, V12, V14, V3, V4, V5, V6, V7, V8, V9}
use Rattle.rg_cmd.specs.declared.state.State.{State}
use Rattle.rg_validate.specs.Definitions.{policy_suits, under}
use Rattle.rg_validate.specs.Failing.{first_failing}
use Rattle.rg_validate.specs.Policies.{old_form, policy_place_fits, policy_rules, policy_subjects_fit, stays_in, zone_fits}
use Rattle.rg_validate.specs.Rules.{command_rules, policy_exists, rules_under, service_exists}
use Rattle.rg_validate.specs.Tags.{tagged_resources_fit, tagged_service_fits}
use Rattle.rg_validate.specs.Valid.{policy_valid, tag_row_valid}
use Rattle.rg_admin_laws.specs.Changes.{created_form, stored_row, updated_form}
use Rattle.rg_admin_laws.proofs.Orderly.{ServicesValid, def_there}
use Rattle.rg_admin_laws.proofs.Passing.{passed_at, passed_first}

-- a policy that passes its rules is valid
pub policy_passes : (s : State) (updated : Option PolicyId) (p : Policy) (def : ServiceDef) → def_of s p.service ≡ Some def → first_failing (policy_rules s updated p def) ≡ None → policy_valid s p ≡ true
policy_passes s updated p def is h =
    let at = passed_at (policy_rules s updated p def) h in
    let place = and_parts (zone_fits s p) (stays_in (old_form s updated) p) (at 13 (V14, policy_place_fits s updated p) refl) in
    let suits : policy_suits def p ≡ true = and_from (type_fits def p) _ (at 2 (V3, type_fits def p) refl)
    (and_from (policy_levels_fit def p) _ (at 4 (V5, policy_levels_fit def p) refl)
    (and_from (policy_values_fit def p) _ (at 5 (V6, policy_values_fit def p) refl)
    (and_from (lists_fit p) _ (at 6 (V7, lists_fit p) refl)
    (and_from (entries_fit def p) _ (at 7 (V8, entries_fit def p) refl)
    (and_from (conditions_compile def p) (outcomes_fit def p) (at 8 (V9, conditions_compile def p) refl) (at 10 (V11, outcomes_fit def p) refl)))))) in
    and_from (under (def_of s p.service) (λ d. policy_suits d p)) _ (subst (λ (o : Option ServiceDef). under o (λ d. policy_suits d p) ≡ true) (sym is) suits)
    (and_from (priority_fits p) _ (at 3 (V4, priority_fits p) refl)
    (and_from (policy_subjects_fit s p) _ (at 9 (V10, policy_subjects_fit s p) refl)
    (and_from (schedules_read s.time_zones.items p) (zone_fits s p) (at 11 (V12, schedules_read s.time_zones.items p) refl) place.0)))

-- id and version play no part in the rules
form_valid : (s : State) (p : Policy) (id : PolicyId) (version : Version) → policy_valid s p ≡ true → policy_valid s (record p { id = id; version = version }) ≡ true
form_valid s p id version h = h

pub created_passes : (s : State) → ServicesValid s → (p : Policy) → first_failing (command_rules s (CreatePolicy p)) ≡ None → policy_valid s (created_form s p) ≡ true
created_passes s services p h =
    let def = def_there s services p.service (passed_at (command_rules s (CreatePolicy p)) h 0 (service_exists s p.service) refl) in
    let asked = λ (d : Option ServiceDef). service_exists s p.service ∷ rules_under d (policy_rules s None p) in
    let all = passed_first (service_exists s p.service) (policy_rules s None p def.0) (subst (λ d. first_failing (asked d) ≡ None) def.1 h) in
    form_valid s p (record { 0 = s.next_id }) (record { 0 = 1 }) (policy_passes s None p def.0 def.1 all.1)

pub updated_passes : (s : State) → ServicesValid s → (p : Policy) → first_failing (command_rules s (UpdatePolicy p)) ≡ None → policy_valid s (updated_form s p) ≡ true
updated_passes s services p h =
    let def = def_there s services p.service (passed_at (command_rules s (UpdatePolicy p)) h 1 (service_exists s p.service) refl) in
    let asked = λ (d : Option ServiceDef). policy_exists s p.id.0 ∷ service_exists s p.service ∷ rules_under d (policy_rules s (Some p.id) p) in
    let some = passed_first (policy_exists s p.id.0) (service_exists s p.service ∷ policy_rules s (Some p.id) p def.0) (subst (λ d. first_failing (asked d) ≡ None) def.1 h) in
    let all = passed_first (service_exists s p.service) (policy_rules s (Some p.id) p def.0) some.1 in
    form_valid s p p.id (updated_form s p).version (policy_passes s (Some p.id) p def.0 def.1 all.1)

-- a tag row that passes its rules is valid
pub row_passes : (s : State) (id : ℤ) (row : TagRow) → first_failing (command_rules s (PutTags id row)) ≡ None → tag_row_valid s (stored_row id row) ≡ true
row_passes s id row h =
    let at = passed_at (command_rules s (PutTags id row)) h in
    and_from (tagged_service_fits s row) _ (at 1 (G1, tagged_service_fits s row) refl)
    (and_from (tagged_resources_fit s row) (tags_fit row.tags.items) (at 2 (G2, tagged_resources_fit s row) refl) (at 3 (G3, tags_fit row.tags.items) refl))
