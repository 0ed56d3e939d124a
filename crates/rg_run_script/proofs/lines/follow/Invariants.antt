use Rattle.std.proofs.Common.{◌+◌, ◌≤◌, length, string_bytes}
use Rattle.rg_run_script.proofs.Scripts.{IsFollowed}
use Rattle.rg_run_script.proofs.lines.follow.Given as goal

abbrev pub invariant-lines : goal.invariant-lines
invariant-lines g l = record {
  followed : IsFollowed _ g.W.Worker.step l.fn.worker (g.C.Clock.given l.fn.clock) (g.C.Clock.given l.clock) l.bytes (string_bytes l.text) l.worker l.number l.rest;
  bound : l.number + length l.rest ≤ length l.bytes + 1;
}

abbrev pub decreases-lines : goal.decreases-lines
decreases-lines g l = length l.rest
