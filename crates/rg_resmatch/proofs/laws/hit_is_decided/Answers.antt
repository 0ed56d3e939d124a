use Rattle.rg_resmatch.proofs.Deciding.{hit_from, hit_holds}
use Rattle.rg_resmatch.proofs.laws.hit_is_decided.Goals as goal

pub returns : goal.returns
returns c = λ level r user v. (hit_holds c.stands_is_decided.ensures level r user v, hit_from c.stands_is_decided.ensures level r user v)
