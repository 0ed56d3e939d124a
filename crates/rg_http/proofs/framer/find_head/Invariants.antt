use Rattle.std.proofs.Common.{◌≡◌, ◌≤◌, ◌+◌, ◌-◌, length, max}
use Rattle.rg_http.specs.Framing.{head_limit}
use Rattle.rg_http.specs.Answers.{piece_limit}
use Rattle.rg_http.specs.Places.{Grows}
use Rattle.rg_http.proofs.framer.find_head.Given as goal

-- more bytes are kept, and no fault was counted
abbrev pub invariant-loop-status : goal.invariant-loop-status
invariant-loop-status g l = record {
  grows : Grows (g.T.Link.left l.fn.link) (g.T.Link.left l.link) l.fn.inbox l.inbox;
  bounded : length l.inbox ≤ max (length l.fn.inbox) (head_limit + piece_limit);
  faults : g.T.Link.faults l.link ≡ g.T.Link.faults l.fn.link;
  unwritten : g.T.Link.held l.link ≡ g.T.Link.held l.fn.link;
}

abbrev pub decreases-loop-status : goal.decreases-loop-status
decreases-loop-status g l = head_limit - length l.inbox
