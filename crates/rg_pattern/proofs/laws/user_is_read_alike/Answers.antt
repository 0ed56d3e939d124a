use Rattle.rg_pattern.proofs.Read.{user_past}
use Rattle.rg_pattern.proofs.laws.user_is_read_alike.Goals as goal

pub returns : goal.returns
returns c = λ wild t. user_past wild 0 t
