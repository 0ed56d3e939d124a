use Rattle.std.proofs.Common.{string_bytes}
use Rattle.rg_test_script.proofs.Ending.{cut_off, ends_so, tested_so, unframed}
use Rattle.rg_test_script.proofs.program.work_lines.Goals as goal

pub returns-in-Err-clause-cut_off : goal.returns-in-Err-clause-cut_off
returns-in-Err-clause-cut_off g c = λ form begun. cut_off form _ _ _ _ begun c.in-Err.ensures.cut_off

pub returns-in-Ok-finish-clause-done : goal.returns-in-Ok-finish-clause-done
returns-in-Ok-finish-clause-done g c = λ form begun.
    tested_so form _ _ _ _ begun (string_bytes c.in-Ok.worked.text) _ c.in-Ok.worked.status _ _ c.in-Ok.ensures.done c.in-Ok-finish.ensures.text c.in-Ok-finish.ensures.status

pub returns-in-Ok-finish-clause-ends : goal.returns-in-Ok-finish-clause-ends
returns-in-Ok-finish-clause-ends g c = ends_so c.follow.new.worker c.in-Ok.worked.status _ c.in-Ok.ensures.ends c.in-Ok-finish.ensures.status

pub returns-in-Err-finish-clause-cut_off : goal.returns-in-Err-finish-clause-cut_off
returns-in-Err-finish-clause-cut_off g c = λ form begun. unframed form _ _ _ _ begun (string_bytes c.in-Ok.worked.text) c.in-Ok.worked.status _ c.in-Ok.ensures.done
