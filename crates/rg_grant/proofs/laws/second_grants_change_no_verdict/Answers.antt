use Rattle.rg_grant.specs.Steps.{granted}
use Rattle.rg_grant.specs.declared.ask.GrantAsk.TheVariants.{Grant}
use Rattle.rg_grant.proofs.InForce.{in_force}
use Rattle.rg_grant.proofs.SecondGrant.{second_grant}
use Rattle.rg_grant.proofs.laws.second_grants_change_no_verdict.Goals as goal

pub returns : goal.returns
returns c = λ a actor other g fine kept service q.
    let force = in_force a actor g fine in
    second_grant (granted a (Grant actor g)).0 other g kept force.policy force.found force.again service q
