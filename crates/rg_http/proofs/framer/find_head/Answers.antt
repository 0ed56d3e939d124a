use Rattle.std.proofs.Common.{◌≡◌, ◌<◌, Ok, length, [], ap, sym, ◌∙◌, subst, arith, rules}
use Rattle.std.proofs.lemmas.List.{length-take}
use Rattle.httparse.specs.Grammar.{RequestHead}
use Rattle.httparse.specs.Spans.{IsRequestAt}
use Rattle.rg_http.specs.Framing.{head_limit, window, message_of, IsUnfinished}
use Rattle.rg_http.proofs.Standing.{judged_hopeless, judged_refused, judged_open, judged_begun, stands_full, stands_cut, open_unfinished}
use Rattle.rg_http.proofs.Sparing.{breaks, grows_more, took_short}
use Rattle.rg_http.proofs.framer.find_head.Goals as goal

pub judge-requires : goal.judge-requires
judge-requires g c =
    let e = ap length c.window_of-window.ensures in
    let d = length-take head_limit c.bytes.result.now in
    omega (arith, e, d)

pub returns-in-Hopeless-clause-place : goal.returns-in-Hopeless-clause-place
returns-in-Hopeless-clause-place g c =
    judged_hopeless c.loop-status.inbox _ _ _ (c.window_of-window.ensures ∙ ap window c.bytes.ensures) c.in-Hopeless.is c.in_ok-judge.ensures

pub returns-in-Refused-clause-place : goal.returns-in-Refused-clause-place
returns-in-Refused-clause-place g c =
    judged_refused c.loop-status.inbox _ _ _ (c.window_of-window.ensures ∙ ap window c.bytes.ensures) c.in-Refused.status c.in-Refused.is c.in_ok-judge.ensures

pub returns-in-Head-clause-place : goal.returns-in-Head-clause-place
returns-in-Head-clause-place g c =
    judged_begun c.loop-status.inbox _ c.judge.new.room.items _ (c.window_of-window.ensures ∙ ap window c.bytes.ensures) c.in-Head.head c.in-Head.n c.in_ok-message-in-Head.message c.in-Head.is c.in_ok-judge.ensures
    (subst (λ r. (h : RequestHead) → IsRequestAt c.window_of-window.result.now r c.in-Head.head h → c.in_ok-message-in-Head.message ≡ message_of h []) c.as_slice.ensures.value c.in_ok-message-in-Head.ensures)

pub returns-then-bytes-ge-HEAD_LIMIT-clause-place : goal.returns-then-bytes-ge-HEAD_LIMIT-clause-place
returns-then-bytes-ge-HEAD_LIMIT-clause-place g c =
    stands_full c.loop-status.inbox (search rules)
    (judged_open c.loop-status.inbox _ _ _ (c.window_of-window.ensures ∙ ap window c.bytes.ensures) c.in-Open.is c.in_ok-judge.ensures)

pub returns-in-Err-clause-grows : goal.returns-in-Err-clause-grows
returns-in-Err-clause-grows g c =
    grows_more _ _ _ _ _ _ c.loop-status.invariant.grows
    (open_unfinished _ (search rules) (judged_open c.loop-status.inbox _ _ _ (c.window_of-window.ensures ∙ ap window c.bytes.ensures) c.in-Open.is c.in_ok-judge.ensures))
    c.take_piece.ensures.took

pub returns-in-Err-clause-place : goal.returns-in-Err-clause-place
returns-in-Err-clause-place g c =
    breaks _ c.in-Err.fault (subst IsUnfinished (sym c.in-Err.ensures.none)
    (open_unfinished _ (search rules) (judged_open c.loop-status.inbox _ _ _ (c.window_of-window.ensures ∙ ap window c.bytes.ensures) c.in-Open.is c.in_ok-judge.ensures)))

pub returns-then-not-more-clause-place : goal.returns-then-not-more-clause-place
returns-then-not-more-clause-place g c =
    let same : c.take_piece.new.self ≡ c.loop-status.inbox = (c.in-Ok.ensures.end (ap Ok c.if-not-more.true)).1 in
    stands_cut c.take_piece.new.self (search rules) (subst IsUnfinished (sym same)
    (open_unfinished _ (search rules) (judged_open c.loop-status.inbox _ _ _ (c.window_of-window.ensures ∙ ap window c.bytes.ensures) c.in-Open.is c.in_ok-judge.ensures)))

pub loop-status-preserved : goal.loop-status-preserved
loop-status-preserved g c =
    let x = c.in-Ok.ensures in
    let i = c.loop-status.invariant in
    let few : length c.loop-status.inbox < head_limit = search rules in
    record {
      grows = grows_more _ _ _ _ _ _ i.grows
          (open_unfinished _ few (judged_open c.loop-status.inbox _ _ _ (c.window_of-window.ensures ∙ ap window c.bytes.ensures) c.in-Open.is c.in_ok-judge.ensures))
          x.took;
      bounded = omega (arith, took_short _ _ _ _ x.took, few, i.bounded);
      faults = x.faults ∙ i.faults;
      unwritten = x.unwritten ∙ i.unwritten;
    }
