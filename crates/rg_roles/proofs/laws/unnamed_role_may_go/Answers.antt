use Rattle.rg_roles.proofs.InLists.{may_go}
use Rattle.rg_roles.proofs.laws.unnamed_role_may_go.Goals as goal

pub returns : goal.returns
returns c = may_go
