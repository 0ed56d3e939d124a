use Rattle.rg_zones.proofs.Apart.{by_pairs}
use Rattle.rg_zones.proofs.laws.zones_apart_by_pairs.Goals as goal

pub returns : goal.returns
returns c = λ service def zones. by_pairs service def zones
