use Rattle.rg_grant.proofs.Permitted.{given_after, given_before}
use Rattle.rg_grant.proofs.laws.taking_is_exact.Goals as goal

pub returns : goal.returns
returns c = λ g items p. (given_before g items p, given_after g items p)
