use Rattle.rg_run_keep.proofs.Staging.{ask_stops, asked_goes, asked_stops}
use Rattle.rg_run_keep.proofs.stage.Stage.ask.Goals as goal

pub returns-in-Ok-add_answer-clause-worked : goal.returns-in-Ok-add_answer-clause-worked
returns-in-Ok-add_answer-clause-worked g c =
    let asked = c.in-Ok.ensures in
    rw c.in-Opened.is
    (asked_goes _ _ _ _ _ _ asked.config _ _ c.in-Ok.reply _ _ (rw c.kept-kept.ensures.number at c.kept-kept.ensures.length) asked.answer asked.full asked.added
    c.in-Ok-add_answer.ensures)

pub returns-in-Err-add_answer-clause-stopped : goal.returns-in-Err-add_answer-clause-stopped
returns-in-Err-add_answer-clause-stopped g c =
    let asked = c.in-Ok.ensures in
    rw c.in-Opened.is
    (asked_stops _ _ _ _ _ _ asked.config _ _ c.in-Ok.reply (rw c.kept-kept.ensures.number at c.kept-kept.ensures.length) asked.answer asked.full asked.added)

pub returns-in-Err-clause-stopped : goal.returns-in-Err-clause-stopped
returns-in-Err-clause-stopped g c =
    rw (c.in-Opened.is, c.stop_of_fault.ensures) (ask_stops _ _ _ _ _ _ (rw c.kept-kept.ensures.number at c.kept-kept.ensures.length) c.in-Err.ensures.stopped)
