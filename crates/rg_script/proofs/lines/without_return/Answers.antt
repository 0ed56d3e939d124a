use Rattle.rg_script.proofs.FirstLine.{return_dropped, other_kept}
use Rattle.rg_script.proofs.lines.without_return.Goals as goal

pub returns-in-Some : goal.returns-in-Some
returns-in-Some c = return_dropped _ _ _ c.in-Some.ensures.cases.0 c.if-last-eq13.true

pub returns-in_default : goal.returns-in_default
returns-in_default c = other_kept _ _ _ c.in-Some.ensures.cases.0 c.if-last-eq13.false
