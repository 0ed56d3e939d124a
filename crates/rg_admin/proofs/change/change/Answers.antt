use Rattle.std.proofs.Common.{arith, ap, sym, ◌∙◌, w64, FitsSigned}
use Rattle.std.proofs.lemmas.Int.{ints, to_z-of_z}
use Rattle.rg_cmd.specs.declared.ask.AdminCommand.TheVariants.{DeleteTags}
use Rattle.rg_admin_laws.specs.Changes.{after_command}
use Rattle.rg_admin.proofs.change.change.Goals as goal

pub returns-in-DeleteTags-clause-ok : goal.returns-in-DeleteTags-clause-ok
returns-in-DeleteTags-clause-ok c =
    let fits : FitsSigned w64 c.in-DeleteTags.id = omega (arith, ints) in
    c.delete_tags.ensures ∙ ap (λ id. after_command c.args.state.now (DeleteTags id)) (to_z-of_z w64 c.in-DeleteTags.id fits) ∙ ap (after_command c.args.state.now) (sym c.in-DeleteTags.is)
