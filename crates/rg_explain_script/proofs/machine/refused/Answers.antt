use Rattle.std.proofs.Common.{◌∙◌}
use Rattle.rg_explain_script.proofs.Ending.{never_asked}
use Rattle.rg_explain_script.proofs.machine.refused.Goals as goal

pub returns : goal.returns
returns c = never_asked _ (c.from.ensures ∙ c.number.ensures)
