use Rattle.rg_admin_laws.proofs.OwnViews.{policy_may_go, row_may_go}
use Rattle.rg_admin_laws.proofs.laws.views_rest_on_their_own.Goals as goal

pub returns-clause-policies : goal.returns-clause-policies
returns-clause-policies c = policy_may_go

pub returns-clause-tag_rows : goal.returns-clause-tag_rows
returns-clause-tag_rows c = row_may_go
