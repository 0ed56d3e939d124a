use Rattle.rg_standing.proofs.Flow.{in_play_told}
use Rattle.rg_standing.proofs.laws.told_in_play_where_it_is.Goals as goal

pub returns : goal.returns
returns c = λ a p. in_play_told a p
