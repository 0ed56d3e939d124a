use Rattle.std.proofs.Common.{◌∙◌}
use Rattle.rg_test_script.proofs.Ending.{never_begun}
use Rattle.rg_test_script.proofs.program.out_of_memory.Goals as goal

pub returns : goal.returns
returns c = λ form. never_begun form _ (c.from.ensures ∙ c.number.ensures)
