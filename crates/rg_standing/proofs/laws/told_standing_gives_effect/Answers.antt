use Rattle.rg_standing.proofs.Flow.{effect_is_told}
use Rattle.rg_standing.proofs.laws.told_standing_gives_effect.Goals as goal

pub returns : goal.returns
returns c = λ a p. effect_is_told a p
