use Rattle.std.proofs.Common.{◌∙◌}
use Rattle.rg_run.proofs.Runs.{never_begun}
use Rattle.rg_run.proofs.machine.out_of_memory.Goals as goal

pub returns : goal.returns
returns c = λ command. never_begun command _ (c.from.ensures ∙ c.number.ensures)
