use Rattle.std.proofs.Common.{◌≡◌, ◌≤◌, ◌+◌, ◌-◌, length, max}
use Rattle.rg_http.specs.Answers.{piece_limit}
use Rattle.rg_http.specs.Places.{Fills}
use Rattle.rg_http.proofs.inbox.Inbox.fill_to.Given as goal

-- more bytes are kept, and no fault was counted
abbrev pub invariant-loop-self : goal.invariant-loop-self
invariant-loop-self g l = record {
  fills : Fills l.need (g.T.Link.left l.fn.link) (g.T.Link.left l.link) l.fn.self l.self;
  bounded : length l.self ≤ max (length l.fn.self) (l.need + piece_limit);
  faults : g.T.Link.faults l.link ≡ g.T.Link.faults l.fn.link;
  unwritten : g.T.Link.held l.link ≡ g.T.Link.held l.fn.link;
}

abbrev pub decreases-loop-self : goal.decreases-loop-self
decreases-loop-self g l = l.need - length l.self
