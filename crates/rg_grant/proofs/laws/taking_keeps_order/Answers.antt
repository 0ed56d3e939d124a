use Rattle.std.proofs.lemmas.Grind.{flat_map-append}
use Rattle.rg_grant.specs.Taking.{parts_left}
use Rattle.rg_grant.proofs.Twice.{left_again}
use Rattle.rg_grant.proofs.laws.taking_keeps_order.Goals as goal

pub returns-clause-order : goal.returns-clause-order
returns-clause-order c = λ g items more. flat_map-append (parts_left g) items more

pub returns-clause-again : goal.returns-clause-again
returns-clause-again c = left_again
