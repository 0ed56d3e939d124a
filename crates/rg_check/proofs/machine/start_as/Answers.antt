use Rattle.rg_check.proofs.Ending.{ended_so}
use Rattle.rg_check.proofs.machine.start_as.Goals as goal

pub returns : goal.returns
returns c = ended_so _ _ _ _ _ c.from.ensures c.check-status.ensures.answers
