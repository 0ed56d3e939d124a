use Rattle.rg_pattern.proofs.Decided.{covers_holds, covers_from}
use Rattle.rg_pattern.proofs.laws.covers_is_decided.Goals as goal

pub returns : goal.returns
returns c = λ fold q p. (covers_holds fold q p, covers_from fold q p)
