use Rattle.rg_session.proofs.Downloaded.{first, stays}
use Rattle.rg_session.proofs.laws.downloaded_lists_stay.Goals as goal

pub returns-clause-first : goal.returns-clause-first
returns-clause-first c = first

pub returns-clause-later : goal.returns-clause-later
returns-clause-later c = stays
