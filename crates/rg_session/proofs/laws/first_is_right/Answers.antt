use Rattle.rg_session.proofs.Rights.{opens}
use Rattle.rg_session.proofs.laws.first_is_right.Goals as goal

pub returns : goal.returns
returns c = opens
