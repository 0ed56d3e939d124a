use Rattle.std.proofs.Common.{rules, ◌≡◌, IfOk, Some, None, subst}
use Rattle.rg_cmd.specs.Lookups.{def_of}
use Rattle.rg_validate.specs.Policies.{policy_rules}
use Rattle.rg_validate.specs.Rules.{rules_under}
use Rattle.rg_validate.proofs.Firsts.{no_service, under_service}
use Rattle.rg_validate.proofs.commands.create_policy_fault.Goals as goal

pub returns-in_default : goal.returns-in_default
returns-in_default c =
    let none : def_of c.args.state.now c.args.policy.now.service ≡ None = search rules in
    no_service c.args.state.now c.args.policy.now.service c.requires.valid none (rules_under (def_of c.args.state.now c.args.policy.now.service) (policy_rules c.args.state.now None c.args.policy.now))

pub returns : goal.returns
returns c =
    let there : def_of c.args.state.now c.args.policy.now.service ≡ Some c.in-Some.def.now = search rules in
    subst (λ f. IfOk c.policy_fault.result (λ fault. fault ≡ f))
    (under_service c.args.state.now c.args.policy.now.service c.in-Some.def.now there (policy_rules c.args.state.now None c.args.policy.now)) c.policy_fault.ensures
