use Rattle.rg_admin_laws.proofs.Lawful.{stays_of, versions_rise}
use Rattle.rg_admin_laws.proofs.laws.versions_never_fall.Goals as goal

pub returns : goal.returns
returns c = λ start h is legal j k from low service none. versions_rise start h is j k from low service (stays_of start h legal j k service none)
