use Rattle.rg_resmatch.proofs.Deciding.{lies_from, lies_holds}
use Rattle.rg_resmatch.proofs.laws.lies_is_decided.Goals as goal

pub returns : goal.returns
returns c = λ def lawful resources reach elements user. (
  lies_holds c.stands_is_decided.ensures def (c.paths_are_all.ensures def lawful) resources reach elements user,
  lies_from c.stands_is_decided.ensures def (c.paths_are_all.ensures def lawful) resources reach elements user,
)
