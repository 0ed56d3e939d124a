use Rattle.rg_admin_laws.proofs.Following.{role_versions_few, versions_few}
use Rattle.rg_admin_laws.proofs.laws.versions_are_few.Goals as goal

pub returns-clause-logs : goal.returns-clause-logs
returns-clause-logs c = versions_few

pub returns-clause-roles : goal.returns-clause-roles
returns-clause-roles c = role_versions_few
