use Rattle.rg_run_keep.proofs.Staging.{judged_goes}
use Rattle.rg_run_keep.proofs.stage.Stage.decide.Goals as goal

pub returns-in-Ok-clause-worked : goal.returns-in-Ok-clause-worked
returns-in-Ok-clause-worked g c = rw c.in-Opened.is (judged_goes _ _ _ _ _ _ c.in-Ok.ensures.judged _)
