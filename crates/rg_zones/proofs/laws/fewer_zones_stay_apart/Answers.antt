use Rattle.rg_zone_rules.specs.Overlap.{zones_overlap}
use Rattle.rg_zones.proofs.Apart.{fewer}
use Rattle.rg_zones.proofs.laws.fewer_zones_stay_apart.Goals as goal

pub returns : goal.returns
returns c = λ service def p zones. fewer (zones_overlap service def) p zones
