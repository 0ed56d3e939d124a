use Rattle.rg_roles.specs.Members.{name_at, names_role}
use Rattle.rg_roles.proofs.Decided.{leads-Decides}
use Rattle.rg_roles.proofs.laws.cycle_is_decided.Goals as goal

pub returns : goal.returns
returns c = λ rows place. leads-Decides rows (names_role (name_at rows place)) (name_at rows place)
