use Rattle.rg_delegate.proofs.Reaching.{may_too}
use Rattle.rg_delegate.proofs.laws.covered_policy_may_be_administered.Goals as goal

pub returns : goal.returns
returns c = may_too c.covers_is_decided.ensures
