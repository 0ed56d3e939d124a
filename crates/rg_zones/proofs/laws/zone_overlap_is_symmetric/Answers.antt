use Rattle.rg_zones.proofs.Apart.{symmetric}
use Rattle.rg_zones.proofs.laws.zone_overlap_is_symmetric.Goals as goal

pub returns : goal.returns
returns c = λ service def a b. symmetric service def a b
