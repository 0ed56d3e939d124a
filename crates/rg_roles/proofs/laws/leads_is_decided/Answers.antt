use Rattle.rg_roles.proofs.Decided.{leads-Decides}
use Rattle.rg_roles.proofs.laws.leads_is_decided.Goals as goal

pub returns : goal.returns
returns c = leads-Decides
