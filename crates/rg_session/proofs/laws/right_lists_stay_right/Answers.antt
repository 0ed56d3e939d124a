use Rattle.rg_session.proofs.Rights.{stays_right}
use Rattle.rg_session.proofs.laws.right_lists_stay_right.Goals as goal

pub returns : goal.returns
returns c = stays_right c.publications_stay_right.ensures
