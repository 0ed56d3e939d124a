-- For proofs alone: the rules of policies in three parts, as code asks them, what V13 leaves out, and the rules of a role's roles.
use Rattle.std.specs.Prelude.{ℕ, List, [], ◌∷◌, Option, Some, None}
use Rattle.rg_base.specs.Texts.{is_name}
use Rattle.rg_base.specs.declared.numbers.PolicyId.{PolicyId}
use Rattle.rg_policy.specs.declared.policy.Policy.{Policy}
use Rattle.rg_defs.specs.declared.service_def.ServiceDef.{ServiceDef}
use Rattle.rg_cond.specs.PolicyRules.{conditions_compile, schedules_read}
use Rattle.rg_items.specs.PolicyRules.{entries_fit, lists_fit, outcomes_fit, priority_fits, type_fits}
use Rattle.rg_resmatch.specs.Rules.{policy_levels_fit, policy_values_fit}
use Rattle.rg_roles.specs.declared.row.RoleRow.{RoleRow}
use Rattle.rg_same_resources.specs.Counts.{has_print}
use Rattle.rg_cmd.specs.declared.rule.Rule.TheVariants.{V1, V2, V3, V4, V5, V6, V7, V8, V9, V10, V11, V12, V13, V14, O2, O3}
use Rattle.rg_cmd.specs.declared.state.State.{State}
use Rattle.rg_validate.specs.Failing.{Tested}
use Rattle.rg_validate.specs.Policies.{has_no_twin, policy_name_is_new, policy_place_fits, policy_subjects_fit}
use Rattle.rg_validate.specs.Roles.{goes_in_no_circle, member_roles_exist}

abbrev pub name_rules : State → Option PolicyId → Policy → ServiceDef → List Tested
name_rules s updated p def = (V1, is_name p.name) ∷ (V2, policy_name_is_new s updated p) ∷ (V3, type_fits def p) ∷ (V4, priority_fits p) ∷ []

abbrev pub form_rules : Policy → ServiceDef → List Tested
form_rules p def = (V5, policy_levels_fit def p) ∷ (V6, policy_values_fit def p) ∷ (V7, lists_fit p) ∷ (V8, entries_fit def p) ∷ (V9, conditions_compile def p) ∷ []

abbrev pub setting_rules : State → Option PolicyId → Policy → ServiceDef → List Tested
setting_rules s updated p def = (V10, policy_subjects_fit s p) ∷ (V11, outcomes_fit def p) ∷ (V12, schedules_read s.time_zones.items p) ∷ (V13, has_no_twin s updated p) ∷ (V14, policy_place_fits s updated p) ∷ []

-- how many of those with the print the old form is
abbrev pub own_count : Option Policy → ℕ → ℕ
own_count None k = 0
own_count (Some old) k = has_print k old

abbrev pub member_role_rules : State → RoleRow → List Tested
member_role_rules s row = (O2, member_roles_exist s row) ∷ (O3, goes_in_no_circle s row) ∷ []
