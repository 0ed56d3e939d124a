use Rattle.std.proofs.Common.{◌∙◌}
use Rattle.rg_check.proofs.Ending.{never_begun}
use Rattle.rg_check.proofs.machine.out_of_memory.Goals as goal

pub returns : goal.returns
returns c = λ command. never_begun command _ (c.from.ensures ∙ c.number.ensures)
