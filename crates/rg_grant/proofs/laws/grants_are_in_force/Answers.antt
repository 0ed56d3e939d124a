use Rattle.rg_grant.proofs.InForce.{in_force}
use Rattle.rg_grant.proofs.laws.grants_are_in_force.Goals as goal

pub returns : goal.returns
returns c = in_force
