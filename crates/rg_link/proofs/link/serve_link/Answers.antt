use Rattle.rg_link.proofs.Ends.{never_began}
use Rattle.rg_link.proofs.Steps.{begins_refl}
use Rattle.rg_link.proofs.link.serve_link.Goals as goal

pub returns-in_default-clause-broken : goal.returns-in_default-clause-broken
returns-in_default-clause-broken g c = never_began _ c.judged_stays_judged.ensures.message _ _

pub returns-in_default-clause-begins : goal.returns-in_default-clause-begins
returns-in_default-clause-begins g c = (begins_refl _, begins_refl _)
