use Rattle.rg_standing.proofs.Naming.{member_told}
use Rattle.rg_standing.proofs.laws.member_is_told_where_named.Goals as goal

pub returns : goal.returns
returns c = λ rows q s. member_told rows q s
