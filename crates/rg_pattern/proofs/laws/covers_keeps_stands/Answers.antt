use Rattle.rg_pattern.proofs.Joined.{covers_stands}
use Rattle.rg_pattern.proofs.laws.covers_keeps_stands.Goals as goal

pub returns : goal.returns
returns c = covers_stands
