use Rattle.std.proofs.Common.{◌∙◌}
use Rattle.rg_check.proofs.machine.refused.Goals as goal

pub returns : goal.returns
returns c = c.from.ensures ∙ c.number.ensures
