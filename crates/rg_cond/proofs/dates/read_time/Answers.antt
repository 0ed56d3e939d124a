use Rattle.std.proofs.Common.{◌∙◌, ap, arith, w8, pos}
use Rattle.std.proofs.lemmas.Int.{to_z_pos}
use Rattle.rg_cond.proofs.Calendars.{time_taken}
use Rattle.rg_cond.proofs.dates.read_time.Goals as goal

pub returns-clause-some : goal.returns-clause-some
returns-clause-some c =
    let hour = to_z_pos w8 c.two_at-hour.result (omega (arith, c.two_at-hour.ensures.bound)) ∙ ap pos c.two_at-hour.ensures.value in
    let minute = to_z_pos w8 c.two_at-minute.result (omega (arith, c.two_at-minute.ensures.bound)) ∙ ap pos c.two_at-minute.ensures.value in
    let second = to_z_pos w8 c.two_at-second.result (omega (arith, c.two_at-second.ensures.bound)) ∙ ap pos c.two_at-second.ensures.value in
    c.ok.ensures.variant ∙ time_taken c.args.text.now _ (rw (← hour, ← minute, ← second) c.new.ensures.succeeds)
