use Rattle.std.proofs.Common.{◌+◌, ◌≤◌, length, string_bytes}
use Rattle.rg_run_script.specs.Hooked.{hooked, hooks_of, with_enrichers}
use Rattle.rg_run_script.proofs.Hooks.{IsHeard}
use Rattle.rg_run_script.proofs.hooked.follow_hooked.Given as goal

abbrev pub invariant-lines : goal.invariant-lines
invariant-lines g l = record {
  heard : IsHeard _ (with_enrichers g.W.HookedWorker.hooked_step) (hooked l.fn.worker (g.H.RequestHooks.enrichers l.fn.hooks))
      (g.C.Clock.given l.fn.clock) (g.C.Clock.given l.clock) l.bytes (string_bytes l.text) (hooked l.worker (g.H.RequestHooks.enrichers l.hooks)) l.number l.rest
      (hooks_of (g.H.RequestHooks.sinks l.fn.hooks) (g.H.RequestHooks.enrichers l.fn.hooks)) (hooks_of (g.H.RequestHooks.sinks l.hooks) (g.H.RequestHooks.enrichers l.hooks));
  bound : l.number + length l.rest ≤ length l.bytes + 1;
}

abbrev pub decreases-lines : goal.decreases-lines
decreases-lines g l = length l.rest
