use Rattle.rg_admin_laws.proofs.Readying.{form_fits, ready}
use Rattle.rg_admin_laws.proofs.laws.accepted_commands_are_ready.Goals as goal

pub returns-clause-ready : goal.returns-clause-ready
returns-clause-ready c = ready

pub returns-clause-fits : goal.returns-clause-fits
returns-clause-fits c = form_fits
