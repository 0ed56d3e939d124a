use Rattle.rg_http.proofs.Standing.{message_stays, bad_stays}
use Rattle.rg_http.proofs.laws.judged_stays_judged.Goals as goal

pub returns-clause-message : goal.returns-clause-message
returns-clause-message c = message_stays

pub returns-clause-bad : goal.returns-clause-bad
returns-clause-bad c = bad_stays
