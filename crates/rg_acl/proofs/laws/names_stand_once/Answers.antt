use Rattle.rg_acl.proofs.Sorted.{ordered_from, ordered_into, ordered_rises}
use Rattle.rg_acl.proofs.laws.names_stand_once.Goals as goal

pub returns-clause-rise : goal.returns-clause-rise
returns-clause-rise c = ordered_rises

pub returns-clause-same : goal.returns-clause-same
returns-clause-same c = λ all bytes. (ordered_from all bytes, ordered_into all bytes)
