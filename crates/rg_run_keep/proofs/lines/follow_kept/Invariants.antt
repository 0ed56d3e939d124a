use Rattle.std.proofs.Common.{◌+◌, ◌≤◌, length, string_bytes}
use Rattle.rg_run_script.specs.Hooked.{hooks_of}
use Rattle.rg_run_keep.specs.Stages.{keeper_of, opened_of}
use Rattle.rg_run_keep.proofs.Following.{IsUnderway}
use Rattle.rg_run_keep.proofs.lines.follow_kept.Given as goal

abbrev pub invariant-lines : goal.invariant-lines
invariant-lines g l = record {
  underway : IsUnderway (g.P.Keeper.kept l.fn.keeper) (g.P.Keeper.kept (keeper_of l.stage)) (g.C.Clock.given l.fn.clock) (g.C.Clock.given l.clock) l.bytes (string_bytes l.text)
      (opened_of l.stage) l.number l.rest
      (hooks_of (g.H.RequestHooks.sinks l.fn.hooks) (g.H.RequestHooks.enrichers l.fn.hooks)) (hooks_of (g.H.RequestHooks.sinks l.hooks) (g.H.RequestHooks.enrichers l.hooks));
  counted : g.P.Keeper.faults l.fn.keeper ≤ g.P.Keeper.faults (keeper_of l.stage);
  bound : l.number + length l.rest ≤ length l.bytes + 1;
}

abbrev pub decreases-lines : goal.decreases-lines
decreases-lines g l = length l.rest
