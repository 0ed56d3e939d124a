use Rattle.rg_grant.proofs.Revoked.{refused_without, revoked}
use Rattle.rg_grant.proofs.laws.revokes_take_all.Goals as goal

pub returns-clause-accepted : goal.returns-clause-accepted
returns-clause-accepted c = revoked

pub returns-clause-no_policy : goal.returns-clause-no_policy
returns-clause-no_policy c = refused_without
