use Rattle.rg_grant.proofs.OneMap.{twins_of}
use Rattle.rg_grant.proofs.Single.{one_policy}
use Rattle.rg_grant.proofs.laws.rows_have_one_policy.Goals as goal

pub returns-clause-twin : goal.returns-clause-twin
returns-clause-twin c = twins_of

pub returns-clause-single : goal.returns-clause-single
returns-clause-single c = one_policy
