use Rattle.rg_resmatch.proofs.Deciding.{same_maps}
use Rattle.rg_resmatch.proofs.laws.same_maps_lie_alike.Goals as goal

pub returns : goal.returns
returns c = same_maps
