use Rattle.std.proofs.Common.{length, sym, ap, subst, ◌∙◌}
use Rattle.rg_base.proofs.Firsts.{none_first}
use Rattle.rg_roles.specs.Faults.{repeats}
use Rattle.rg_roles.specs.Members.{names_of}
use Rattle.rg_roles.specs.Places.{IsExpanded}
use Rattle.rg_roles.proofs.Built.{is_expanded}
use Rattle.rg_roles.proofs.Charted.{chart_bounded}
use Rattle.rg_roles.proofs.Ranked.{none_is}
use Rattle.rg_roles.proofs.membership.Roles.build.Goals as goal

pub reach_of-requires-clause-bounded : goal.reach_of-requires-clause-bounded
reach_of-requires-clause-bounded c = chart_bounded c.args.rows.now c.in_ok-chart.chart c.in_ok-chart.ensures.ok.0

pub invariant_of-result : goal.invariant_of-result
invariant_of-result c =
    let rows = c.args.rows.now in
    let same = sym c.in_ok-rows.ensures in
    let distinct = none_first (repeats rows) (length rows) ((none_is rows).0 c.in_ok-chart.ensures.ok.1).0 in (
      c.in_ok-index.ensures ∙ ap names_of same,
      subst (λ rs. IsExpanded rs c.in_ok-reach.reach) same
          (is_expanded rows c.in_ok-chart.chart c.in_ok-chart.ensures.ok.0 distinct c.in_ok-chart.ensures.ok.2 c.in_ok-reach.reach c.in_ok-reach.ensures),
    )
