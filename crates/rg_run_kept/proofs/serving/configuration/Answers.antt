use Rattle.std.proofs.Common.{◌∙◌, sym}
use Rattle.rg_run_kept.proofs.Served.{lawful_so, told_so}
use Rattle.rg_run_kept.proofs.serving.configuration.Goals as goal

pub returns-in-Done-Some-clause-told : goal.returns-in-Done-Some-clause-told
returns-in-Done-Some-clause-told g c = (
  told_so _ _ _ _ _ _ _ c.in-Done-Some.config c.new-told.ensures (sym c.told.view_is ∙ c.in-Done-Some.is-1) c.in-Done-Some.is-0 c.in-Ok.ensures.done,
  lawful_so _ c.in-Done-Some.config c.in-Done-Some.is-1 c.told.invariant,
)
