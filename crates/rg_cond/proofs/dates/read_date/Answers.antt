use Rattle.std.proofs.Common.{◌∙◌, ap, arith, w8, w16, pos}
use Rattle.std.proofs.lemmas.Int.{to_z_pos}
use Rattle.rg_cond.proofs.Calendars.{date_taken}
use Rattle.rg_cond.proofs.dates.read_date.Goals as goal

pub returns-clause-some : goal.returns-clause-some
returns-clause-some c =
    let year = to_z_pos w16 c.four_at-year.result (omega (arith, c.four_at-year.ensures.bound)) ∙ ap pos c.four_at-year.ensures.value in
    let month = to_z_pos w8 c.two_at-month.result (omega (arith, c.two_at-month.ensures.bound)) ∙ ap pos c.two_at-month.ensures.value in
    let day = to_z_pos w8 c.two_at-day.result (omega (arith, c.two_at-day.ensures.bound)) ∙ ap pos c.two_at-day.ensures.value in
    c.ok.ensures.variant ∙ date_taken c.args.text.now _ (rw (← c.four_at-year.ensures.value) c.four_at-year.ensures.bound)
    (simp (year, month, day) at c.new.ensures.succeeds)
