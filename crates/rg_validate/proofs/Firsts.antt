-- The first rule that fails, of rules in parts.
use Rattle.std.proofs.Common.{◌≡◌, ℕ, Bool, true, false, not, cond, List, [], ◌∷◌, ◌++◌, map, Option, Some, None, refl, sym, ap, ◌∙◌}
use Rattle.std.specs.List.{find}
use Rattle.std.specs.Option.{option_map, option_or}
use Rattle.rg_base.specs.declared.numbers.PolicyId.{PolicyId}
use Rattle.rg_policy.specs.declared.policy.Policy.{Policy}
use Rattle.rg_defs.specs.declared.service_def.ServiceDef.{ServiceDef}
use Rattle.std.proofs.lemmas.Option.{none-some}
use Rattle.rg_defs.specs.Rules.{def_fault, rules_of}
use Rattle.rg_cmd.specs.Lookups.{def_of}
use Rattle.rg_cmd.specs.declared.rule.Rule.{Rule}
use Rattle.rg_cmd.specs.declared.rule.Rule.TheVariants.{E1}
use Rattle.rg_cmd.specs.declared.state.State.{State}
use Rattle.rg_validate.specs.Failing.{Tested, first_failing}
use Rattle.rg_validate.specs.Definitions.{definition_rule, definition_rules}
use Rattle.rg_validate.specs.Policies.{policy_rules}
use Rattle.rg_validate.specs.Rules.{rules_under, service_exists}
use Rattle.rg_validate.specs.Valid.{IsValid}
use Rattle.rg_validate.proofs.ValidParts.{none_without_def, there_with_def}
use Rattle.rg_validate.specs.Steps.{form_rules, name_rules, setting_rules}

-- what is asked first goes before
pub asked_first : (rules more : List Tested) → first_failing (rules ++ more) ≡ option_or (first_failing rules) (first_failing more)
asked_first [] more = refl
asked_first (r ∷ rules) more =
    elim r.1 as (λ b. option_map (λ (t : Tested). t.0) (cond (not b) (Some r) (find (λ (t : Tested). not t.1) (rules ++ more)))
    ≡ option_or (option_map (λ (t : Tested). t.0) (cond (not b) (Some r) (find (λ (t : Tested). not t.1) rules))) (first_failing more)) [
      | true ↦ asked_first rules more
      | false ↦ refl
    ]

pub policy_parts : (s : State) (updated : Option PolicyId) (p : Policy) (def : ServiceDef) → first_failing (policy_rules s updated p def)
    ≡ option_or (first_failing (name_rules s updated p def)) (option_or (first_failing (form_rules p def)) (first_failing (setting_rules s updated p def)))
policy_parts s updated p def =
    asked_first (name_rules s updated p def) (form_rules p def ++ setting_rules s updated p def)
    ∙ ap (option_or (first_failing (name_rules s updated p def))) (asked_first (form_rules p def) (setting_rules s updated p def))

-- the first part decides
pub by_name : (s : State) (updated : Option PolicyId) (p : Policy) (def : ServiceDef) (rule : Rule) → first_failing (name_rules s updated p def) ≡ Some rule → Some rule ≡ first_failing (policy_rules s updated p def)
by_name s updated p def rule named =
    sym (policy_parts s updated p def ∙ ap (λ o. option_or o (option_or (first_failing (form_rules p def)) (first_failing (setting_rules s updated p def)))) named)

-- the other parts decide
module _ (s : State) (updated : Option PolicyId) (p : Policy) (def : ServiceDef) (named : first_failing (name_rules s updated p def) ≡ None) where
  pub by_form : (rule : Rule) → first_failing (form_rules p def) ≡ Some rule → Some rule ≡ first_failing (policy_rules s updated p def)
  by_form rule formed = sym (policy_parts s updated p def
      ∙ ap (λ o. option_or o (option_or (first_failing (form_rules p def)) (first_failing (setting_rules s updated p def)))) named
      ∙ ap (λ o. option_or o (first_failing (setting_rules s updated p def))) formed)

  pub by_setting : first_failing (form_rules p def) ≡ None → first_failing (setting_rules s updated p def) ≡ first_failing (policy_rules s updated p def)
  by_setting formed = sym (policy_parts s updated p def
      ∙ ap (λ o. option_or o (option_or (first_failing (form_rules p def)) (first_failing (setting_rules s updated p def)))) named
      ∙ ap (λ o. option_or o (first_failing (setting_rules s updated p def))) formed)

-- a rule that is passed
pub passed_first : (rule : Rule) (b : Bool) → b ≡ true → (rules : List Tested) → first_failing rules ≡ first_failing ((rule, b) ∷ rules)
passed_first rule b h rules = sym (ap (λ c. first_failing ((rule, c) ∷ rules)) h)

-- ---- rules in two parts

pub by_first : (rules more : List Tested) (rule : Rule) → first_failing rules ≡ Some rule → Some rule ≡ first_failing (rules ++ more)
by_first rules more rule h = sym (asked_first rules more ∙ ap (λ o. option_or o (first_failing more)) h)

pub by_more : (rules more : List Tested) → first_failing rules ≡ None → first_failing more ≡ first_failing (rules ++ more)
by_more rules more h = sym (asked_first rules more ∙ ap (λ o. option_or o (first_failing more)) h)

-- ---- the rules of a definition

definition_first : (rules : List (ℕ × Bool)) → first_failing (map (λ (r : ℕ × Bool). (definition_rule r.0, r.1)) rules) ≡ option_map definition_rule (option_map (λ (r : ℕ × Bool). r.0) (find (λ (r : ℕ × Bool). not r.1) rules))
definition_first [] = refl
definition_first (r ∷ rules) =
    elim r.1 as (λ b. option_map (λ (t : Tested). t.0) (cond (not b) (Some (definition_rule r.0, r.1)) (find (λ (t : Tested). not t.1) (map (λ (q : ℕ × Bool). (definition_rule q.0, q.1)) rules)))
    ≡ option_map definition_rule (option_map (λ (q : ℕ × Bool). q.0) (cond (not b) (Some r) (find (λ (q : ℕ × Bool). not q.1) rules)))) [
      | true ↦ definition_first rules
      | false ↦ refl
    ]

pub definition_is : (def : ServiceDef) → first_failing (definition_rules def) ≡ option_map definition_rule (def_fault def)
unfolding def_fault
definition_is def = definition_first (rules_of def)

-- ---- rules under the definition of a service

pub no_service : (s : State) (name : List ℕ) → IsValid s → def_of s name ≡ None → (rules : List Tested) → Some E1 ≡ first_failing (service_exists s name ∷ rules)
no_service s name valid none rules =
    sym (ap (λ b. option_map (λ (t : Tested). t.0) (cond (not b) (Some (E1, b)) (find (λ (t : Tested). not t.1) rules))) (none_without_def s name valid none))

pub under_service : (s : State) (name : List ℕ) (def : ServiceDef) → def_of s name ≡ Some def → (rules : ServiceDef → List Tested)
    → first_failing (rules def) ≡ first_failing (service_exists s name ∷ rules_under (def_of s name) rules)
under_service s name def there rules =
    sym (ap (λ b. option_map (λ (t : Tested). t.0) (cond (not b) (Some (E1, b)) (find (λ (t : Tested). not t.1) (rules_under (def_of s name) rules)))) (there_with_def s name def there)
    ∙ ap (λ o. first_failing (rules_under o rules)) there)
