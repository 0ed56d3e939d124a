use Rattle.std.proofs.Common.{rules, ◌≡◌, true, ◌∷◌, IfOk, Some, None, ◌∙◌, subst}
use Rattle.std.specs.List.{list_any}
use Rattle.rg_cmd.specs.Lookups.{def_of, has_id}
use Rattle.rg_cmd.specs.declared.rule.Rule.TheVariants.{E2}
use Rattle.rg_validate.specs.Policies.{policy_rules}
use Rattle.rg_validate.specs.Rules.{rules_under, service_exists}
use Rattle.rg_validate.proofs.Firsts.{no_service, passed_first, under_service}
use Rattle.rg_validate.proofs.commands.update_policy_fault.Goals as goal

pub returns-in_default : goal.returns-in_default
returns-in_default c =
    let none : def_of c.args.state.now c.args.policy.now.service ≡ None = search rules in
    let old : list_any (has_id c.args.policy.now.id.0) c.args.state.now.policies.items ≡ true = search rules in
    no_service c.args.state.now c.args.policy.now.service c.requires.valid none (rules_under (def_of c.args.state.now c.args.policy.now.service) (policy_rules c.args.state.now (Some c.args.policy.now.id) c.args.policy.now))
    ∙ passed_first E2 (list_any (has_id c.args.policy.now.id.0) c.args.state.now.policies.items) old (service_exists c.args.state.now c.args.policy.now.service ∷ rules_under (def_of c.args.state.now c.args.policy.now.service) (policy_rules c.args.state.now (Some c.args.policy.now.id) c.args.policy.now))

pub returns : goal.returns
returns c =
    let there : def_of c.args.state.now c.args.policy.now.service ≡ Some c.in-Some.def.now = search rules in
    let old : list_any (has_id c.args.policy.now.id.0) c.args.state.now.policies.items ≡ true = search rules in
    subst (λ f. IfOk c.policy_fault.result (λ fault. fault ≡ f))
    (under_service c.args.state.now c.args.policy.now.service c.in-Some.def.now there (policy_rules c.args.state.now (Some c.args.policy.now.id) c.args.policy.now) ∙ passed_first E2 (list_any (has_id c.args.policy.now.id.0) c.args.state.now.policies.items) old (service_exists c.args.state.now c.args.policy.now.service ∷ rules_under (def_of c.args.state.now c.args.policy.now.service) (policy_rules c.args.state.now (Some c.args.policy.now.id) c.args.policy.now))) c.policy_fault.ensures
