use Rattle.std.proofs.Common.{◌≡◌, ◌≤◌, ◌-◌, length, take}
use Rattle.rg_http.specs.Answers.{Wrote}
use Rattle.rg_http.proofs.writing.write_whole.Given as goal

abbrev pub invariant-loop-done : goal.invariant-loop-done
invariant-loop-done g l = record {
  within : l.done ≤ length l.bytes;
  wrote : Wrote (g.T.Link.held l.fn.link) (g.T.Link.held l.link) (take l.done l.bytes);
  faults : g.T.Link.faults l.link ≡ g.T.Link.faults l.fn.link;
  left : g.T.Link.left l.link ≡ g.T.Link.left l.fn.link;
  ended : g.T.Link.ended l.link ≡ g.T.Link.ended l.fn.link;
}

abbrev pub decreases-loop-done : goal.decreases-loop-done
decreases-loop-done g l = length l.bytes - l.done
