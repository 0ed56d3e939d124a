use Rattle.rg_delegate.proofs.Keeping.{more_keeps}
use Rattle.rg_delegate.proofs.laws.more_delegation_keeps_authority.Goals as goal

pub returns : goal.returns
returns c = more_keeps
