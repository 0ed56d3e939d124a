use Rattle.std.proofs.Common.{◌∙◌}
use Rattle.rg_run_script.specs.declared.status.Status.TheVariants.{NoMemory}
use Rattle.rg_run_kept.proofs.program.out_of_memory.Goals as goal

pub returns : goal.returns
returns c = λ wanted. (NoMemory, (λ is. cc), c.from.ensures ∙ c.number.ensures)
