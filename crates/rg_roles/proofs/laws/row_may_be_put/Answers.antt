use Rattle.rg_roles.proofs.InLists.{may_be_put}
use Rattle.rg_roles.proofs.laws.row_may_be_put.Goals as goal

pub returns : goal.returns
returns c = may_be_put
