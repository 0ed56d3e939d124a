use Rattle.rg_pattern.proofs.Joined.{twin_below, below_twin}
use Rattle.rg_pattern.proofs.laws.twin_stands_below.Goals as goal

pub returns : goal.returns
returns c = λ fold user p t. (twin_below fold user p t, below_twin fold user p t)
