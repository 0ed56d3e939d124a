use Rattle.rg_check.proofs.Ending.{asked_so}
use Rattle.rg_check.proofs.machine.start.Goals as goal

pub returns-in-Some : goal.returns-in-Some
returns-in-Some c = asked_so _ _ _ c.in-Some.ensures c.start_as.ensures

pub returns-in-None : goal.returns-in-None
returns-in-None c = asked_so _ _ _ c.in-None.ensures c.refused.ensures
