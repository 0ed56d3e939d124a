use Rattle.std.proofs.Common.{Ok, ap, sym, subst, rules}
use Rattle.rg_client.specs.declared.heads.Judged.TheVariants.{Open, Unread}
use Rattle.rg_client.specs.Replies.{IsUnfinished}
use Rattle.rg_client.proofs.Finishing.{judged, full, unfinished}
use Rattle.rg_client.proofs.Telling.{grows_more}
use Rattle.rg_client.proofs.reading.find_head.Goals as goal

pub returns-in-Unread-clause-place : goal.returns-in-Unread-clause-place
returns-in-Unread-clause-place g c = judged c.loop-begun.inbox _ _ Unread c.bytes.ensures c.in-Unread.is c.in_ok-begun.ensures

pub returns-then-bytes-ge-HEAD_LIMIT-clause-place : goal.returns-then-bytes-ge-HEAD_LIMIT-clause-place
returns-then-bytes-ge-HEAD_LIMIT-clause-place g c =
    full c.loop-begun.inbox (search rules) (judged c.loop-begun.inbox _ _ Open c.bytes.ensures c.in-Open.is c.in_ok-begun.ensures)

pub returns-in_err-take_piece-clause-grows : goal.returns-in_err-take_piece-clause-grows
returns-in_err-take_piece-clause-grows g c = grows_more _ _ _ _ _ _ c.loop-begun.invariant.grows c.take_piece.ensures.took

pub returns-then-not-branch-clause-place : goal.returns-then-not-branch-clause-place
returns-then-not-branch-clause-place g c =
    subst IsUnfinished (sym (c.in_ok-take_piece.ensures.end (ap Ok c.if-not-branch.true)).1)
    (unfinished c.loop-begun.inbox (search rules) (judged c.loop-begun.inbox _ _ Open c.bytes.ensures c.in-Open.is c.in_ok-begun.ensures))
