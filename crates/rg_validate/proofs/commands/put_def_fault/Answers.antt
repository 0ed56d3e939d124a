use Rattle.std.proofs.Common.{rules, ◌≡◌, [], ◌∷◌, Some, None, ap, ◌∙◌}
use Rattle.rg_cmd.specs.declared.rule.Rule.TheVariants.{C1}
use Rattle.rg_validate.specs.Definitions.{definition_rules, definition_suits}
use Rattle.rg_validate.specs.Failing.{first_failing}
use Rattle.rg_validate.proofs.Firsts.{by_first, by_more}
use Rattle.rg_validate.proofs.commands.put_def_fault.Goals as goal

pub returns-in-Some : goal.returns-in-Some
returns-in-Some c =
    let fails : first_failing (definition_rules c.args.def.now) ≡ Some c.in-Some.rule = search rules in
    by_first (definition_rules c.args.def.now) ((C1, definition_suits c.args.state.now c.args.def.now) ∷ []) c.in-Some.rule fails

pub returns : goal.returns
returns c =
    let none : first_failing (definition_rules c.args.def.now) ≡ None = search rules in
    let suits : c.in_ok-suits.suits ≡ definition_suits c.args.state.now c.args.def.now = search rules in
    c.unless.ensures ∙ ap (λ b. first_failing ((C1, b) ∷ [])) suits
    ∙ by_more (definition_rules c.args.def.now) ((C1, definition_suits c.args.state.now c.args.def.now) ∷ []) none
