use Rattle.rg_roles.proofs.Ranked.{cycle_is, duplicate_is, none_is, unknown_is}
use Rattle.rg_roles.proofs.laws.fault_is_first.Goals as goal

pub returns-clause-none : goal.returns-clause-none
returns-clause-none c = none_is

pub returns-clause-duplicate : goal.returns-clause-duplicate
returns-clause-duplicate c = duplicate_is

pub returns-clause-unknown : goal.returns-clause-unknown
returns-clause-unknown c = unknown_is

pub returns-clause-cycle : goal.returns-clause-cycle
returns-clause-cycle c = cycle_is
