use Rattle.rg_resmatch.proofs.Deciding.{some_lies_from, some_lies_holds}
use Rattle.rg_resmatch.proofs.laws.some_lies_is_decided.Goals as goal

pub returns : goal.returns
returns c = λ def lawful maps reach elements user. (
  some_lies_holds c.stands_is_decided.ensures def (c.paths_are_all.ensures def lawful) maps reach elements user,
  some_lies_from c.stands_is_decided.ensures def (c.paths_are_all.ensures def lawful) maps reach elements user,
)
