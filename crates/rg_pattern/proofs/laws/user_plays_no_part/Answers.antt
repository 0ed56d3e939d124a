use Rattle.rg_pattern.proofs.Joined.{same_for_all, some_text}
use Rattle.rg_pattern.proofs.laws.user_plays_no_part.Goals as goal

pub returns-clause-same : goal.returns-clause-same
returns-clause-same c = same_for_all

pub returns-clause-some : goal.returns-clause-some
returns-clause-some c = some_text
