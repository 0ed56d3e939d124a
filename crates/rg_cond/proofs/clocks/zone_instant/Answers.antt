use Rattle.std.proofs.Common.{ap, ◌∙◌}
use Rattle.jiff.specs.Words.{plain_zone}
use Rattle.rg_cond.specs.ClockViews.{rule_said}
use Rattle.rg_cond.specs.Clocks.{instant_on}
use Rattle.rg_cond.proofs.Instants.{placed, unplaced, no_answer}
use Rattle.rg_cond.proofs.clocks.zone_instant.Goals as goal

pub returns-in-Ok : goal.returns-in-Ok
returns-in-Ok c =
    placed (plain_zone c.args.zone.now) c.local.inside.shown c.in-Ok.instant.nanosecond c.as_second-second.result c.requires c.local.invariant c.in-Ok.instant.in_range c.in-Ok.ensures.value c.as_second-second.ensures
    ∙ ap (instant_on (rule_said (plain_zone c.args.zone.now))) c.local.view_is

pub returns-in-Err : goal.returns-in-Err
returns-in-Err c =
    unplaced (plain_zone c.args.zone.now) c.local.inside.shown c.requires c.local.invariant (λ t. no_answer (rw c.in-Err.is at (c.to_timestamp.ensures.succeeds.1 t)))
    ∙ ap (instant_on (rule_said (plain_zone c.args.zone.now))) c.local.view_is
