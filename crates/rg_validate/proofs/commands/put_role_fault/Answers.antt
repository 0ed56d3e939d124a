use Rattle.std.proofs.Common.{rules, ◌≡◌, ◌∷◌, true, IfOk, sym, subst}
use Rattle.rg_base.specs.Texts.{is_name}
use Rattle.rg_cmd.specs.declared.rule.Rule.TheVariants.{O1}
use Rattle.rg_validate.specs.Failing.{first_failing}
use Rattle.rg_validate.specs.Steps.{member_role_rules}
use Rattle.rg_validate.proofs.commands.put_role_fault.Goals as goal

pub returns : goal.returns
returns c =
    let named : is_name c.args.role.now.name ≡ true = search rules in
    subst (λ b. IfOk c.member_roles_fault.result (λ fault. fault ≡ first_failing ((O1, b) ∷ member_role_rules c.args.state.now c.args.role.now))) (sym named) c.member_roles_fault.ensures
