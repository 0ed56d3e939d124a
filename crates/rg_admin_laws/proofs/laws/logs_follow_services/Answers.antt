use Rattle.rg_admin_laws.proofs.Following.{logs_follow}
use Rattle.rg_admin_laws.proofs.laws.logs_follow_services.Goals as goal

pub returns : goal.returns
returns c = logs_follow
