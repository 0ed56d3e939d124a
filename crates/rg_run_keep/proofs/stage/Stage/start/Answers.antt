use Rattle.rg_run_keep.proofs.Staging.{opened_already, start_stops, started_goes}
use Rattle.rg_run_keep.proofs.stage.Stage.start.Goals as goal

pub returns-in-Opened-clause-stopped : goal.returns-in-Opened-clause-stopped
returns-in-Opened-clause-stopped g c = rw c.in-Opened.is (opened_already _ _ _)

pub returns-in-Ok-clause-worked : goal.returns-in-Ok-clause-worked
returns-in-Ok-clause-worked g c =
    let opened = c.in-Ok.ensures in rw c.in-Closed.is (started_goes _ _ _ _ _ opened.config opened.replayed opened.reopens opened.same)

pub returns-in-Err-clause-stopped : goal.returns-in-Err-clause-stopped
returns-in-Err-clause-stopped g c = rw (c.in-Closed.is, c.stop_of_cause.ensures) (start_stops _ _ _ _ _ _ c.in-Err.ensures.cause c.in-Err.ensures.same_err)
