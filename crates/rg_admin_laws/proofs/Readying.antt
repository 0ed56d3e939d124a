-- For proofs alone: what the rules of authority need of a state and of a command.
use Rattle.std.proofs.Common.{◌≡◌, true, Option, None, subst}
use Rattle.std.proofs.lemmas.Bool.{and_parts}
use Rattle.rg_base.proofs.Lists.{all_holds}
use Rattle.rg_policy.specs.declared.policy.Policy.{Policy}
use Rattle.rg_defs.specs.declared.service_def.ServiceDef.{ServiceDef}
use Rattle.rg_defs.specs.Rules.{def_fault}
use Rattle.rg_items.specs.PolicyRules.{type_fits}
use Rattle.rg_resmatch.specs.Rules.{policy_levels_fit, policy_values_fit}
use Rattle.rg_roles.specs.Faults.{fault_of}
use Rattle.rg_cmd.specs.declared.ask.AdminCommand.{AdminCommand}
use Rattle.rg_cmd.specs.declared.ask.AdminCommand.TheVariants.{CreatePolicy, UpdatePolicy}
use Rattle.rg_cmd.specs.declared.ask.Ask.{Ask}
use Rattle.rg_cmd.specs.declared.state.State.{State}
use Rattle.rg_validate.specs.Definitions.{policy_suits, under}
use Rattle.rg_validate.specs.Failing.{first_failing}
use Rattle.rg_validate.specs.Rules.{command_rules, first_fault, limit_rules}
use Rattle.rg_validate.specs.Valid.{IsValid, definition_valid, policy_valid}
use Rattle.rg_validate.proofs.ValidParts.{none_of}
use Rattle.rg_delegate.specs.Ready.{Fits, FormFits, IsReady}
use Rattle.rg_admin_laws.proofs.KeptPolicies.{created_passes, updated_passes}
use Rattle.rg_admin_laws.proofs.Parts.{policy_parts}
use Rattle.rg_admin_laws.proofs.Passing.{none_of_both}

-- a valid policy passes V5 and V6
valid_fits : (s : State) (p : Policy) → policy_valid s p ≡ true → Fits s p
valid_fits s p valid def is =
    let suits = subst (λ (o : Option ServiceDef). under o (λ d. policy_suits d p) ≡ true) is (policy_parts s p valid).suits in
    let typed = and_parts (type_fits def p) _ suits in
    let levels = and_parts (policy_levels_fit def p) _ typed.1 in
    (levels.0, (and_parts (policy_values_fit def p) _ levels.1).0)

pub ready : (s : State) → IsValid s → IsReady s
ready s valid q there = valid_fits s q (all_holds (policy_valid s) s.policies.items valid.policies q there)

-- a policy that passes its rules fits
command_fits : (s : State) → IsValid s → (c : AdminCommand) → first_failing (command_rules s c) ≡ None → FormFits s c
command_fits s valid (CreatePolicy p) h = valid_fits s p (created_passes s valid.services p h)
command_fits s valid (UpdatePolicy p) h = valid_fits s p (updated_passes s valid.services p h)
command_fits s valid c h = tt

pub form_fits : (s : State) → IsValid s → (ask : Ask) → first_fault s ask ≡ None → FormFits s ask.command
form_fits s valid ask h = command_fits s valid ask.command (none_of_both (limit_rules s ask.command) (command_rules s ask.command) h).1
