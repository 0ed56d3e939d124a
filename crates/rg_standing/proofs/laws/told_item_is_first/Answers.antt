use Rattle.rg_standing.proofs.Flow.{item_told}
use Rattle.rg_standing.proofs.laws.told_item_is_first.Goals as goal

pub returns : goal.returns
returns c = λ a items. item_told a items
