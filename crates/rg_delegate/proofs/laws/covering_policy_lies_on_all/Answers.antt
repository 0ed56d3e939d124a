use Rattle.rg_delegate.proofs.Lying.{policy_lies}
use Rattle.rg_delegate.proofs.laws.covering_policy_lies_on_all.Goals as goal

pub returns : goal.returns
returns c = policy_lies c.covers_is_decided.ensures c.covers_keeps_stands.ensures c.hit_is_decided.ensures
