use Rattle.std.proofs.Common.{◌≡◌, None, Some, option_map, inr, sym, ap, ◌∙◌, arith}
use Rattle.std.proofs.lemmas.Result.{err_from_is_err_and}
use Rattle.rg_base.specs.Names.{first_repeat}
use Rattle.rg_roles.specs.declared.fault.RoleFault.TheVariants.{Duplicate}
use Rattle.rg_roles.specs.Faults.{first_row, repeats}
use Rattle.rg_roles.proofs.Built.{is_cycle, no_fault, repeat_is}
use Rattle.rg_roles.proofs.Charted.{chart_bounded}
use Rattle.rg_roles.proofs.Ranked.{duplicate_first, unknown_next}
use Rattle.rg_roles.proofs.fault.searched.Goals as goal

pub returns-in-Some-clause-err : goal.returns-in-Some-clause-err
returns-in-Some-clause-err c =
    let rows = c.args.rows.now in
    let first : first_row repeats rows ≡ Some c.in-Some.place =
    sym (repeat_is rows) ∙ ap first_repeat (sym c.requires.indexed) ∙ sym c.first_repeat.ensures ∙ c.in-Some.is in
    duplicate_first rows _ (inr (ap (option_map Duplicate) first))

pub returns-in_err-chart-clause-err : goal.returns-in_err-chart-clause-err
returns-in_err-chart-clause-err c =
    let rows = c.args.rows.now in
    let distinct : first_row repeats rows ≡ None =
    sym (repeat_is rows) ∙ ap first_repeat (sym c.requires.indexed) ∙ sym c.first_repeat.ensures ∙ c.in_default.is in
    let p = err_from_is_err_and c.from_residual.result c.from_residual.ensures.1 in
    rw (p.1, p.2) (unknown_next rows distinct _ c.in_err-chart.ensures.err)

pub first_on_cycle-requires-clause-bounded : goal.first_on_cycle-requires-clause-bounded
first_on_cycle-requires-clause-bounded c = chart_bounded c.args.rows.now c.in_ok-chart.chart c.in_ok-chart.ensures.ok.0

pub returns-in-Some-2-clause-err : goal.returns-in-Some-2-clause-err
returns-in-Some-2-clause-err c =
    let rows = c.args.rows.now in
    let distinct : first_row repeats rows ≡ None =
    sym (repeat_is rows) ∙ ap first_repeat (sym c.requires.indexed) ∙ sym c.first_repeat.ensures ∙ c.in_default.is in
    inr (is_cycle rows c.in_ok-chart.chart c.in_ok-chart.ensures.ok.0 distinct c.in_ok-chart.ensures.ok.1 c.in-Some-2.place
    (rw c.in-Some-2.is at c.in_ok-place.ensures))

pub returns-clause-ok : goal.returns-clause-ok
returns-clause-ok c =
    let rows = c.args.rows.now in
    let distinct : first_row repeats rows ≡ None =
    sym (repeat_is rows) ∙ ap first_repeat (sym c.requires.indexed) ∙ sym c.first_repeat.ensures ∙ c.in_default.is in (
      c.in_ok-chart.ensures.ok.0,
      no_fault rows c.in_ok-chart.chart c.in_ok-chart.ensures.ok.0 distinct c.in_ok-chart.ensures.ok.1 (rw c.in_default-2.is at c.in_ok-place.ensures),
      omega arith,
    )
