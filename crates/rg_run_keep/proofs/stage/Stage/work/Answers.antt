use Rattle.std.proofs.Common.{◌≢◌, Result, Ok, Err, IfErr, ap, arith, refl, string_bytes}
use Rattle.std.proofs.lemmas.Result.{IfErr-at_err, IfErr-weaker, on_ok_weaker}
use Rattle.rg_run_script.specs.Hooked.{Hooks, hooks_of}
use Rattle.rg_run_keep.specs.Stages.{opened_of}
use Rattle.rg_run_keep.specs.declared.stage.KeepStop.TheVariants as stop
use Rattle.rg_run_keep.proofs.Staging.{ask_line_stops, ask_on, blank_on, config_on, config_stops, decide_line_stops, decide_on, left_alone, reopen_line_stops, reopen_on, same_stops_at, unread_stops}
use Rattle.rg_run_keep.proofs.stage.Stage.work.Goals as goal

-- what holds whatever the error is
on_each : {A E : Type 0} (r : Result A E) (P : E → Type 0) → ((e : E) → P e) → IfErr r P
on_each (Ok x) P each = tt
on_each (Err e) P each = each e

pub returns-in-Ok-Blank : goal.returns-in-Ok-Blank
returns-in-Ok-Blank g c =
    let h : Hooks = hooks_of (g.H.RequestHooks.sinks c.args.hooks.now) (g.H.RequestHooks.enrichers c.args.hooks.now) in
    record {
      worked = blank_on (opened_of c.args.self) c.args.line.now c.args.now _ h (string_bytes c.args.text.now) (rw c.in-Ok-Blank.field-0-is at c.in-Ok-Blank.ensures.ok);
      stopped = tt;
      left = tt;
      unprinted = tt;
      counted = omega arith;
      failed = λ failed. absurd (cc failed);
    }

pub returns-in-Ok-Config : goal.returns-in-Ok-Config
returns-in-Ok-Config g c =
    let h : Hooks = hooks_of (g.H.RequestHooks.sinks c.args.hooks.now) (g.H.RequestHooks.enrichers c.args.hooks.now) in
    let read = rw c.in-Ok-Config.field-0-is at c.in-Ok-Config.ensures.ok in
    record {
      worked = on_ok_weaker c.start.result.1
          (config_on (opened_of c.args.self) c.args.line.now c.args.now _ _ h c.in-Ok-Config.config (opened_of c.start.result.0) (string_bytes c.args.text.now) read) c.start.ensures.worked;
      stopped = IfErr-weaker c.start.result.1 _ _
          (λ why. config_stops (opened_of c.args.self) c.args.line.now c.args.now _ _ h.enrichers why c.in-Ok-Config.config read) c.start.ensures.stopped;
      left = on_each c.start.result.1 _ (λ why. left_alone why h);
      unprinted = on_each c.start.result.1 _ (λ why other. refl);
      counted = c.start.ensures.counted;
      failed = c.start.ensures.failed;
    }

pub returns-in-Ok-Ask : goal.returns-in-Ok-Ask
returns-in-Ok-Ask g c =
    let h : Hooks = hooks_of (g.H.RequestHooks.sinks c.args.hooks.now) (g.H.RequestHooks.enrichers c.args.hooks.now) in
    let read = rw c.in-Ok-Ask.field-0-is at c.in-Ok-Ask.ensures.ok in
    record {
      worked = on_ok_weaker c.ask.result.1
          (ask_on (opened_of c.args.self) c.args.line.now c.args.now _ _ h c.in-Ok-Ask.ask (opened_of c.ask.result.0) _ _ read) c.ask.ensures.worked;
      stopped = IfErr-weaker c.ask.result.1 _ _
          (λ why. ask_line_stops (opened_of c.args.self) c.args.line.now c.args.now _ _ h.enrichers why c.in-Ok-Ask.ask read) c.ask.ensures.stopped;
      left = on_each c.ask.result.1 _ (λ why. left_alone why h);
      unprinted = c.ask.ensures.unprinted;
      counted = c.ask.ensures.counted;
      failed = c.ask.ensures.failed;
    }

pub returns-in-Ok-Reopen : goal.returns-in-Ok-Reopen
returns-in-Ok-Reopen g c =
    let h : Hooks = hooks_of (g.H.RequestHooks.sinks c.args.hooks.now) (g.H.RequestHooks.enrichers c.args.hooks.now) in
    let read = rw c.in-Ok-Reopen.field-0-is at c.in-Ok-Reopen.ensures.ok in
    record {
      worked = on_ok_weaker c.reopen.result.1
          (reopen_on (opened_of c.args.self) c.args.line.now c.args.now _ _ h (opened_of c.reopen.result.0) _ _ read) c.reopen.ensures.worked;
      stopped = IfErr-weaker c.reopen.result.1 _ _
          (λ why. reopen_line_stops (opened_of c.args.self) c.args.line.now c.args.now _ _ h.enrichers why read) c.reopen.ensures.stopped;
      left = on_each c.reopen.result.1 _ (λ why. left_alone why h);
      unprinted = c.reopen.ensures.unprinted;
      counted = c.reopen.ensures.counted;
      failed = c.reopen.ensures.failed;
    }

pub returns-in-Ok-Decide : goal.returns-in-Ok-Decide
returns-in-Ok-Decide g c =
    let h : Hooks = hooks_of (g.H.RequestHooks.sinks c.args.hooks.now) (g.H.RequestHooks.enrichers c.args.hooks.now) in
    let read = rw c.in-Ok-Decide.field-0-is at c.in-Ok-Decide.ensures.ok in
    record {
      worked = rw c.decide.ensures.same
          (on_ok_weaker c.decide.result.1 (decide_on (opened_of c.args.self) c.args.line.now c.args.now _ _ h c.in-Ok-Decide.request _ _ _ _ read) c.decide.ensures.worked);
      stopped = rw c.decide.ensures.same
          (IfErr-weaker c.decide.result.1 _ _
          (λ why. decide_line_stops (opened_of c.args.self) c.args.line.now c.args.now _ _ h.enrichers why c.in-Ok-Decide.request read) c.decide.ensures.stopped);
      left = c.decide.ensures.left;
      unprinted = c.decide.ensures.unprinted;
      counted = rw c.decide.ensures.same (omega arith);
      failed = λ failed. absurd (IfErr-at_err (λ why. why ≢ stop.Failed) failed c.decide.ensures.unfailed refl);
    }

pub returns-in-Err-Bad : goal.returns-in-Err-Bad
returns-in-Err-Bad g c =
    let h : Hooks = hooks_of (g.H.RequestHooks.sinks c.args.hooks.now) (g.H.RequestHooks.enrichers c.args.hooks.now) in
    record {
      worked = tt;
      stopped = unread_stops _ (opened_of c.args.self) h.enrichers c.args.line.now c.args.now (c.in-Err-Bad.ensures.bad (ap Err c.in-Err-Bad.field-0-is));
      left = left_alone stop.Bad h;
      unprinted = λ other. refl;
      counted = omega arith;
      failed = λ failed. absurd (cc failed);
    }

pub returns-in-Err-NoMemory : goal.returns-in-Err-NoMemory
returns-in-Err-NoMemory g c =
    let h : Hooks = hooks_of (g.H.RequestHooks.sinks c.args.hooks.now) (g.H.RequestHooks.enrichers c.args.hooks.now) in
    record {
      worked = tt;
      stopped = same_stops_at _ _ _ _ _ refl;
      left = left_alone stop.NoMemory h;
      unprinted = λ other. absurd (other refl);
      counted = omega arith;
      failed = λ failed. absurd (cc failed);
    }
