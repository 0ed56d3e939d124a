use Rattle.rg_roles.proofs.Least.{holds_closed, holds_least}
use Rattle.rg_roles.proofs.laws.holds_is_least.Goals as goal

pub returns-clause-closed : goal.returns-clause-closed
returns-clause-closed c = holds_closed

pub returns-clause-least : goal.returns-clause-least
returns-clause-least c = holds_least
