use Rattle.std.proofs.Common.{refl}
use Rattle.rg_facts.proofs.laws.effects_are_local.Goals as goal

pub returns-clause-effects : goal.returns-clause-effects
returns-clause-effects c = λ facts policies tag_policies q d. refl

pub returns-clause-offers : goal.returns-clause-offers
returns-clause-offers c = λ facts policies tag_policies q kind d. refl
