use Rattle.rg_standing.proofs.Naming.{subject_told}
use Rattle.rg_standing.proofs.laws.subject_is_told_where_named.Goals as goal

pub returns : goal.returns
returns c = λ rows q item. subject_told rows q item
