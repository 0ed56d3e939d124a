use Rattle.rg_cond.proofs.Instants.{agrees}
use Rattle.rg_cond.proofs.laws.clock_agrees_with_jiff.Goals as goal

pub returns : goal.returns
returns c = agrees
