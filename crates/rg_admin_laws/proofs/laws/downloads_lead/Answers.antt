use Rattle.rg_admin_laws.proofs.Lawful.{downloads_lead, stays_of}
use Rattle.rg_admin_laws.proofs.laws.downloads_lead.Goals as goal

pub returns : goal.returns
returns c = λ start h is legal j k from low service none. downloads_lead start h is j k from low service (stays_of start h legal j k service none)
