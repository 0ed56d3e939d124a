use Rattle.rg_session.proofs.Rights.{one_more}
use Rattle.rg_session.proofs.laws.one_more_is_right.Goals as goal

pub returns : goal.returns
returns c = one_more
