use Rattle.rg_admin_laws.proofs.Further.{given_once}
use Rattle.rg_admin_laws.proofs.laws.ids_are_given_once.Goals as goal

pub returns : goal.returns
returns c = given_once
