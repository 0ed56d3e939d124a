use Rattle.rg_admin_laws.specs.Machine.{administration}
use Rattle.rg_admin_laws.proofs.Happening.{right_on}
use Rattle.rg_admin_laws.proofs.laws.publications_stay_right.Goals as goal

pub returns : goal.returns
returns c = λ plugin start h more ps right. right_on (administration plugin) start h ps right more
