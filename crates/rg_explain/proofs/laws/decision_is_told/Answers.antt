use Rattle.std.proofs.Common.{refl}
use Rattle.rg_explain.proofs.laws.decision_is_told.Goals as goal

pub returns-clause-decision : goal.returns-clause-decision
returns-clause-decision c = λ facts q serial. refl

pub returns-clause-verdict : goal.returns-clause-verdict
returns-clause-verdict c = λ facts q serial. refl

pub returns-clause-zone : goal.returns-clause-zone
returns-clause-zone c = λ facts q serial. refl
