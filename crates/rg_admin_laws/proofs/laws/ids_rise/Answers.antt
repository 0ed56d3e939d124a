use Rattle.rg_admin_laws.proofs.Further.{given_rising}
use Rattle.rg_admin_laws.proofs.laws.ids_rise.Goals as goal

pub returns : goal.returns
returns c = given_rising
