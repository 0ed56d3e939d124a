use Rattle.std.proofs.Common.{Result, Ok, Err, OnErr, arith, string_bytes}
use Rattle.std.proofs.lemmas.Bool.Decides.{nat_tests}
use Rattle.std.proofs.lemmas.List.{nil_from_length}
use Rattle.std.proofs.lemmas.Result.{IfOk-weaker}
use Rattle.rg_run_keep.proofs.Following.{cut_at, ends_at, ends_done, goes_on_so, set_out}
use Rattle.rg_run_keep.proofs.lines.follow_kept.Goals as goal

pub lines-init : goal.lines-init
lines-init g c = record { underway = rw c.new-text.ensures.bytes (set_out _ _ _ _); counted = omega arith; bound = omega arith }

pub lines-preserved : goal.lines-preserved
lines-preserved g c = record {
  underway = goes_on_so _ _ _ _ _ _ _ _ _ _ _ c.split_line.result.1.now _ _ _ c.lines.invariant.underway c.split_line.ensures.lines c.now-now.ensures _ _ _ _ (rw c.in-Ok.is at c.work-next.ensures.worked);
  counted = omega (arith, c.lines.invariant.counted, c.work-next.ensures.counted);
  bound = omega (arith, c.lines.invariant.bound, c.split_line.ensures.shorter);
}

pub returns-in-Err-clause-ended : goal.returns-in-Err-clause-ended
returns-in-Err-clause-ended g c =
    rw c.into_keeper.ensures
    (IfOk-weaker c.name_stop.result _ _
    (λ w named. ends_at _ _ _ _ _ _ _ _ _ _ _ c.split_line.result.1.now _ _ _ c.lines.invariant.underway c.split_line.ensures.lines c.now-now.ensures c.in-Err.stop _ _ (string_bytes w.text) w.status _
    (rw c.in-Err.is at c.work-next.ensures.stopped) (rw c.in-Err.is at c.work-next.ensures.left) (rw c.in-Err.is at c.work-next.ensures.unprinted) named)
    c.name_stop.ensures)

on_err : {A E : Type 0} (r : Result A E) (P : Type 0) → P → OnErr r P
on_err (Ok x) P p = tt
on_err (Err e) P p = p

pub returns-in-Err-clause-cut_off : goal.returns-in-Err-clause-cut_off
returns-in-Err-clause-cut_off g c =
    rw c.into_keeper.ensures
    (on_err c.name_stop.result _
    (cut_at _ _ _ _ _ _ _ _ _ _ _ c.split_line.result.1.now _ _ _ c.lines.invariant.underway c.split_line.ensures.lines c.now-now.ensures c.in-Err.stop _ _
    (rw c.in-Err.is at c.work-next.ensures.stopped) (rw c.in-Err.is at c.work-next.ensures.left)))

pub returns-clause-ended : goal.returns-clause-ended
returns-clause-ended g c = rw c.into_keeper-2.ensures (ends_done _ _ _ _ _ _ _ _ _ _ _ c.lines.invariant.underway (nil_from_length c.lines.rest.now (grind (arith, nat_tests))))
