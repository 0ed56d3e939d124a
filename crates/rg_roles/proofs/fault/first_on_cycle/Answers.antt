use Rattle.std.proofs.Common.{below_more, sym, ◌∙◌}
use Rattle.rg_roles.proofs.Ranks.{never_back}
use Rattle.rg_roles.proofs.fault.first_on_cycle.Goals as goal

pub loop-place-preserved-then-falls : goal.loop-place-preserved-then-falls
loop-place-preserved-then-falls c =
    below_more _ _ c.loop-place.invariant
    (never_back c.args.chart.now c.args.ranks.now (c.never_rises-ranked.ensures c.if-ranked.true) c.loop-place.place (sym c.falls.ensures ∙ c.if-falls.true))
