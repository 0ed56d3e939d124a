use Rattle.rg_pattern.proofs.Decided.{stands_holds, stands_from}
use Rattle.rg_pattern.proofs.laws.stands_is_decided.Goals as goal

pub returns : goal.returns
returns c = λ fold user p t. (stands_holds fold user p t, stands_from fold user p t)
