use Rattle.rg_roles.specs.Members.{names_asker}
use Rattle.rg_roles.proofs.Decided.{leads-Decides}
use Rattle.rg_roles.proofs.laws.holds_is_decided.Goals as goal

pub returns : goal.returns
returns c = λ rows role user groups. leads-Decides rows (names_asker user groups) role
