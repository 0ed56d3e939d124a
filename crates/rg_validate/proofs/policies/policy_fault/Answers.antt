use Rattle.std.proofs.Common.{rules, ◌≡◌, IfOk, Some, None, subst}
use Rattle.rg_validate.proofs.Firsts.{by_form, by_name, by_setting}
use Rattle.rg_validate.specs.Failing.{first_failing}
use Rattle.rg_validate.specs.Steps.{form_rules, name_rules}
use Rattle.rg_validate.proofs.policies.policy_fault.Goals as goal

pub returns-in-Some : goal.returns-in-Some
returns-in-Some c =
    let named : first_failing (name_rules c.args.state.now c.args.updated c.args.policy.now c.args.def.now) ≡ Some c.in-Some.rule = search rules in
    by_name c.args.state.now c.args.updated c.args.policy.now c.args.def.now c.in-Some.rule named

pub returns-in-Some-2 : goal.returns-in-Some-2
returns-in-Some-2 c =
    let named : first_failing (name_rules c.args.state.now c.args.updated c.args.policy.now c.args.def.now) ≡ None = search rules in
    let formed : first_failing (form_rules c.args.policy.now c.args.def.now) ≡ Some c.in-Some-2.rule = search rules in
    by_form c.args.state.now c.args.updated c.args.policy.now c.args.def.now named c.in-Some-2.rule formed

pub returns : goal.returns
returns c =
    let named : first_failing (name_rules c.args.state.now c.args.updated c.args.policy.now c.args.def.now) ≡ None = search rules in
    let formed : first_failing (form_rules c.args.policy.now c.args.def.now) ≡ None = search rules in
    subst (λ f. IfOk c.setting_fault.result (λ fault. fault ≡ f)) (by_setting c.args.state.now c.args.updated c.args.policy.now c.args.def.now named formed) c.setting_fault.ensures
