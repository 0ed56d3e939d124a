use Rattle.std.proofs.Common.{◌∙◌, ◌++◌, Result, Ok, Err, OnErr, ap, ap₂, arith, inl, string_bytes, refl}
use Rattle.std.proofs.lemmas.Result.{IfOk-weaker}
use Rattle.std.proofs.lemmas.List.{nil_from_length}
use Rattle.std.proofs.lemmas.Bool.Decides.{nat_tests}
use Rattle.rg_run_script.specs.Follow.{bad_line_text}
use Rattle.rg_run_script.specs.Hooked.{hooked, hooks_of, with_enrichers}
use Rattle.rg_run_script.proofs.Hooks.{audited_as, heard_all, heard_bad, heard_first, heard_in_part, heard_on}
use Rattle.rg_run_script.proofs.hooked.follow_hooked.Goals as goal

pub lines-init : goal.lines-init
lines-init g c = record {
  heard = rw c.new-text.ensures.bytes (heard_first (with_enrichers g.W.HookedWorker.hooked_step) (hooked c.args.worker.now (g.H.RequestHooks.enrichers c.args.hooks.now))
      (g.C.Clock.given c.args.clock.now) c.args.bytes.now (hooks_of (g.H.RequestHooks.sinks c.args.hooks.now) (g.H.RequestHooks.enrichers c.args.hooks.now)));
  bound = omega arith;
}

pub lines-preserved : goal.lines-preserved
lines-preserved g c = record {
  heard = heard_on _ _ _ _ _ _ _ _ _ _ _ _ _ _ _ c.lines.invariant.heard c.split_line.ensures.lines c.now-now.ensures _ _ _ c.in-Ok.ensures.worked c.in-Ok.ensures.audited;
  bound = omega (arith, c.lines.invariant.bound, c.split_line.ensures.shorter);
}

pub returns-in-Err-Bad-clause-done : goal.returns-in-Err-Bad-clause-done
returns-in-Err-Bad-clause-done g c =
    let bad = ap Err c.in-Err-Bad.field-0-is in
    let same = c.in-Err-Bad.ensures.unchanged bad in
    let sinks = c.in-Err-Bad.ensures.unheard in
    let enrichers = c.in-Err-Bad.ensures.unenriched bad in
    IfOk-weaker c.name_bad_line.result _ _
    (λ w named.
    let r = heard_bad _ _ _ _ _ _ _ _ _ _ _ c.split_line.result.1.now _ _ _ c.lines.invariant.heard c.split_line.ensures.lines c.now-now.ensures
    (string_bytes w.text) _ w.status (c.in-Err-Bad.ensures.bad bad) (ap₂ hooked same.0 enrichers) (named.1 ∙ ap (λ t. t ++ bad_line_text c.lines.number) same.1) named.0 in
    (r.0, r.1, audited_as r.0 _ _ (hooks_of (g.H.RequestHooks.sinks c.work_hooked.new.hooks) (g.H.RequestHooks.enrichers c.work_hooked.new.hooks)) r.2 sinks enrichers))
    c.name_bad_line.ensures

on_err : {A E : Type 0} (r : Result A E) (P : Type 0) → P → OnErr r P
on_err (Ok x) P p = tt
on_err (Err e) P p = p

pub returns-in-Err-Bad-clause-cut_off : goal.returns-in-Err-Bad-clause-cut_off
returns-in-Err-Bad-clause-cut_off g c = on_err c.name_bad_line.result _
    (heard_in_part _ _ _ _ _ _ _ _ _ _ _ c.split_line.result.1.now _ _ _ c.lines.invariant.heard c.split_line.ensures.lines c.now-now.ensures
    (hooks_of (g.H.RequestHooks.sinks c.work_hooked.new.hooks) (g.H.RequestHooks.enrichers c.work_hooked.new.hooks)) c.in-Err-Bad.ensures.unheard c.in-Err-Bad.ensures.in_part)

pub returns-in-Err-NoMemory-clause-cut_off : goal.returns-in-Err-NoMemory-clause-cut_off
returns-in-Err-NoMemory-clause-cut_off g c =
    heard_in_part _ _ _ _ _ _ _ _ _ _ _ c.split_line.result.1.now _ _ _ c.lines.invariant.heard c.split_line.ensures.lines c.now-now.ensures
    (hooks_of (g.H.RequestHooks.sinks c.work_hooked.new.hooks) (g.H.RequestHooks.enrichers c.work_hooked.new.hooks)) c.in-Err-NoMemory.ensures.unheard c.in-Err-NoMemory.ensures.in_part

pub returns-clause-done : goal.returns-clause-done
returns-clause-done g c = heard_all _ _ _ _ _ _ _ _ _ _ _ c.lines.invariant.heard (nil_from_length c.lines.rest.now (grind (arith, nat_tests)))
