use Rattle.std.proofs.Common.{◌∙◌}
use Rattle.rg_explain_script.proofs.Ending.{never_begun}
use Rattle.rg_explain_script.proofs.machine.out_of_memory.Goals as goal

pub returns : goal.returns
returns c = λ options. never_begun options _ (c.from.ensures ∙ c.number.ensures)
