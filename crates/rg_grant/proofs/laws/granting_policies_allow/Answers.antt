use Rattle.rg_grant.proofs.Flowing.{is_allowed}
use Rattle.rg_grant.proofs.laws.granting_policies_allow.Goals as goal

pub returns : goal.returns
returns c = is_allowed
