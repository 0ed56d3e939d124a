use Rattle.rg_pattern.proofs.Joined.{has_user-twin}
use Rattle.rg_pattern.proofs.Read.{scalars-twin}
use Rattle.rg_pattern.proofs.laws.twin_keeps.Goals as goal

pub returns-clause-user : goal.returns-clause-user
returns-clause-user c = has_user-twin

pub returns-clause-scalars : goal.returns-clause-scalars
returns-clause-scalars c = scalars-twin
