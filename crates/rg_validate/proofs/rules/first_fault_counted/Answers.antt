use Rattle.std.proofs.Common.{rules, ◌≡◌, IfOk, Some, None, subst}
use Rattle.rg_validate.specs.Failing.{first_failing}
use Rattle.rg_validate.specs.Rules.{command_rules, limit_rules}
use Rattle.rg_validate.proofs.Firsts.{by_first, by_more}
use Rattle.rg_validate.proofs.rules.first_fault_counted.Goals as goal

pub returns-in-Some : goal.returns-in-Some
returns-in-Some c =
    let fails : first_failing (limit_rules c.args.state.now c.args.ask.now.command) ≡ Some c.in-Some.rule = search rules in
    record { first = by_first (limit_rules c.args.state.now c.args.ask.now.command) (command_rules c.args.state.now c.args.ask.now.command) c.in-Some.rule fails }

pub returns : goal.returns
returns c =
    let none : first_failing (limit_rules c.args.state.now c.args.ask.now.command) ≡ None = search rules in
    record {
      first = subst (λ f. IfOk c.command_fault.result (λ fault. fault ≡ f))
          (by_more (limit_rules c.args.state.now c.args.ask.now.command) (command_rules c.args.state.now c.args.ask.now.command) none) c.command_fault.ensures;
    }
