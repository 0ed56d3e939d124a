use Rattle.std.proofs.Common.{◌≡◌, ◌≤◌, ◌+◌, ◌-◌, length, max}
use Rattle.rg_http.specs.Answers.{piece_limit}
use Rattle.rg_http.specs.Framing.{head_limit}
use Rattle.rg_client.specs.Places.{Grows}
use Rattle.rg_client.proofs.reading.find_head.Given as goal

-- more bytes are kept, and no fault was counted
abbrev pub invariant-loop-begun : goal.invariant-loop-begun
invariant-loop-begun g l = record {
  grows : Grows (g.T.Link.left l.fn.link) (g.T.Link.left l.link) l.fn.inbox l.inbox;
  bounded : length l.inbox ≤ max (length l.fn.inbox) (head_limit + piece_limit);
  faults : g.T.Link.faults l.link ≡ g.T.Link.faults l.fn.link;
  unwritten : g.T.Link.held l.link ≡ g.T.Link.held l.fn.link;
}

abbrev pub decreases-loop-begun : goal.decreases-loop-begun
decreases-loop-begun g l = head_limit - length l.inbox
