use Rattle.rg_explain.proofs.Zoned.{map_found}
use Rattle.rg_explain.proofs.laws.zone_is_told_with_its_map.Goals as goal

pub returns : goal.returns
returns c = λ facts q zone e. map_found facts q zone e
