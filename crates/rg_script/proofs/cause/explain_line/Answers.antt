use Rattle.rg_script.proofs.Causes.{unread_cause}
use Rattle.rg_script.proofs.cause.explain_line.Goals as goal

pub returns-in-Bad-clause-unread : goal.returns-in-Bad-clause-unread
returns-in-Bad-clause-unread c = unread_cause _ _ c.in-Bad.cause (rw c.in-Bad.is at c.in-Err.ensures)
