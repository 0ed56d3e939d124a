use Rattle.rg_acl.proofs.Others.{decided_alike}
use Rattle.rg_acl.proofs.laws.others_are_decided_alike.Goals as goal

pub returns : goal.returns
returns c = decided_alike
