use Rattle.rg_zone_rules.specs.Overlap.{zones_overlap}
use Rattle.rg_zones.proofs.Apart.{replaced, symmetric}
use Rattle.rg_zones.proofs.laws.replaced_zone_stays_apart.Goals as goal

pub returns : goal.returns
returns c = λ service def before old after zone. replaced (zones_overlap service def) (symmetric service def) before old after zone
