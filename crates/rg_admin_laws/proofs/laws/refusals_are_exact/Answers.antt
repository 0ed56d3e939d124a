use Rattle.std.proofs.Common.{ap}
use Rattle.rg_admin_laws.specs.Steps.{step, step_by}
use Rattle.rg_admin_laws.proofs.Further.{refused_where}
use Rattle.rg_admin_laws.proofs.Lawful.{at_orderly}
use Rattle.rg_turn.specs.History.{state_at}
use Rattle.rg_admin_laws.proofs.laws.refusals_are_exact.Goals as goal

pub returns-clause-exact : goal.returns-clause-exact
returns-clause-exact c = λ start h is k ask. refused_where (state_at step start h k) (at_orderly start h is k) ask

pub returns-clause-changes : goal.returns-clause-changes
returns-clause-changes c = λ a ask rule is. ap (λ r. step_by r a ask) is
