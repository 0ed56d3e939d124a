use Rattle.std.proofs.Common.{◌∙◌, ◌++◌, Result, Ok, Err, OnErr, ap, arith, string_bytes}
use Rattle.std.proofs.lemmas.Result.{IfOk-weaker}
use Rattle.rg_run_script.specs.Follow.{bad_line_text}
use Rattle.std.proofs.lemmas.List.{nil_from_length}
use Rattle.std.proofs.lemmas.Bool.Decides.{nat_tests}
use Rattle.rg_run_script.proofs.Scripts.{begun, cut_off, finished, stepped, stopped}
use Rattle.rg_run_script.proofs.lines.follow.Goals as goal

pub lines-init : goal.lines-init
lines-init g c = record { followed = rw c.new-text.ensures.bytes (begun g.W.Worker.step c.args.worker.now (g.C.Clock.given c.args.clock.now) c.args.bytes.now); bound = omega arith }

pub lines-preserved : goal.lines-preserved
lines-preserved g c = record {
  followed = stepped _ _ _ _ _ _ _ _ _ _ _ _ _ c.lines.invariant.followed c.split_line.ensures.lines c.now-now.ensures _ _ c.in-Ok.ensures.worked;
  bound = omega (arith, c.lines.invariant.bound, c.split_line.ensures.shorter);
}

pub returns-in-Err-Bad-clause-done : goal.returns-in-Err-Bad-clause-done
returns-in-Err-Bad-clause-done g c =
    let bad = ap Err c.in-Err-Bad.field-0-is in
    let same = c.in-Err-Bad.ensures.unchanged bad in
    IfOk-weaker c.name_bad_line.result _ _
    (λ w named. stopped _ _ _ _ _ _ _ _ _ _ _ c.split_line.result.1.now _ c.lines.invariant.followed c.split_line.ensures.lines c.now-now.ensures
    (string_bytes w.text) _ w.status (c.in-Err-Bad.ensures.bad bad) same.0 (named.1 ∙ ap (λ t. t ++ bad_line_text c.lines.number) same.1) named.0)
    c.name_bad_line.ensures

on_err : {A E : Type 0} (r : Result A E) (P : Type 0) → P → OnErr r P
on_err (Ok x) P p = tt
on_err (Err e) P p = p

pub returns-in-Err-Bad-clause-cut_off : goal.returns-in-Err-Bad-clause-cut_off
returns-in-Err-Bad-clause-cut_off g c = on_err c.name_bad_line.result _
    (cut_off _ _ _ _ _ _ _ _ _ _ _ c.split_line.result.1.now _ c.lines.invariant.followed c.split_line.ensures.lines c.now-now.ensures)

pub returns-in-Err-NoMemory-clause-cut_off : goal.returns-in-Err-NoMemory-clause-cut_off
returns-in-Err-NoMemory-clause-cut_off g c =
    cut_off _ _ _ _ _ _ _ _ _ _ _ c.split_line.result.1.now _ c.lines.invariant.followed c.split_line.ensures.lines c.now-now.ensures

pub returns-clause-done : goal.returns-clause-done
returns-clause-done g c = finished _ _ _ _ _ _ _ _ _ c.lines.invariant.followed (nil_from_length c.lines.rest.now (grind (arith, nat_tests)))
