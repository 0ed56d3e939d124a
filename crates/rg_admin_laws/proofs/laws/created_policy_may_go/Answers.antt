use Rattle.rg_admin_laws.proofs.Further.{created_and_deleted}
use Rattle.rg_admin_laws.proofs.laws.created_policy_may_go.Goals as goal

pub returns : goal.returns
returns c = λ s p kept. created_and_deleted s kept.given p
