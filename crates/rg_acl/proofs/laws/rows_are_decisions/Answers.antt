use Rattle.rg_acl.proofs.Told.{decided}
use Rattle.rg_acl.proofs.laws.rows_are_decisions.Goals as goal

pub returns : goal.returns
returns c = decided
