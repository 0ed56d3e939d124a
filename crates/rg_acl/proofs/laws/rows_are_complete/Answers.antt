use Rattle.rg_acl.proofs.Told.{complete}
use Rattle.rg_acl.proofs.laws.rows_are_complete.Goals as goal

pub returns : goal.returns
returns c = complete
