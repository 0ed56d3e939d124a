use Rattle.std.proofs.Common.{refl, sym, ap, ◌∙◌, subst, arith}
use Rattle.std.specs.Str.{chars}
use Rattle.rg_http.specs.Answers.{Framed, IsRead}
use Rattle.rg_link.specs.Loop.{Going, IsServed, Unserved}
use Rattle.rg_link.specs.Sessions.{wire}
use Rattle.rg_link.specs.Workers.{worker_of}
use Rattle.rg_link.proofs.Ends.{broken_off, broken_unserved, going_more, going_start, never_began, served_close, served_full, served_over}
use Rattle.rg_link.proofs.Faults.{counts_after}
use Rattle.rg_link.proofs.link.answer_messages.Goals as goal

pub returns-in_default-clause-broken : goal.returns-in_default-clause-broken
returns-in_default-clause-broken g c = never_began _ c.judged_stays_judged.ensures.message _ _

pub loop-messages-init : goal.loop-messages-init
loop-messages-init g c =
    let a = worker_of c.args.seat.now c.args.pass.now (g.C.Clock.given c.args.clock.now) (g.H.RequestHooks.sinks c.args.hooks.now) (g.H.RequestHooks.enrichers c.args.hooks.now) in
    let w = wire (g.T.Link.left c.args.link.now) (g.T.Link.held c.args.link.now) (g.T.Link.ended c.args.link.now) in
    record {
      live = ap (λ (f : Framed). f.live) c.in-Ok.ensures;
      faults = refl;
      within = omega arith;
      going = subst (λ (f : Framed). Going (chars c.args.setting.now.deciding.plugin.now) a a w w f.bytes 0) (sym c.in-Ok.ensures) (going_start (chars c.args.setting.now.deciding.plugin.now) a w);
    }

pub next_message-requires-after_bounds : goal.next_message-requires-after_bounds
next_message-requires-after_bounds g c = λ κs h. c.loop-messages.invariant.live

pub returns-in-Ok-Over-clause-served : goal.returns-in-Ok-Over-clause-served
returns-in-Ok-Over-clause-served g c =
    let x = rw c.in-Ok-Over.field-0-is at c.in-Ok-Over.ensures.comes in
    served_over _ _ _ _ _ _ _ c.loop-messages.invariant.going c.judged_stays_judged.ensures.message _ x.0 c.in-Ok-Over.end x.1 x.2.0 x.2.1 x.2.2 c.loop-messages-test.true

pub returns-in-Err-clause-broken : goal.returns-in-Err-clause-broken
returns-in-Err-clause-broken g c =
    let x = c.in-Err.ensures.comes in
    broken_off _ _ _ _ _ _ _ c.loop-messages.invariant.going c.judged_stays_judged.ensures.message _ x.0 x.1 x.2

pub returns-in-Err-clause-faults : goal.returns-in-Err-clause-faults
returns-in-Err-clause-faults g c = counts_after _ _ _ _ c.loop-messages.invariant.faults c.in-Err.ensures.faults

pub answer_message-requires-after_bounds : goal.answer_message-requires-after_bounds
answer_message-requires-after_bounds g c = λ κs h. c.loop-messages.invariant.going.leads.turn ∙ c.requires

pub returns-in-Err-answer_message-clause-broken : goal.returns-in-Err-answer_message-clause-broken
returns-in-Err-answer_message-clause-broken g c =
    let x = rw c.in-Ok-Message.field-0-is at c.in-Ok-Message.ensures.comes in
    let r = subst (IsRead (g.T.Link.left c.loop-messages.link) x.0) (sym c.answer_message.ensures.unread.0) x.1 in
    let l = c.loop-messages in
    let n = c.answer_message.new in
    let a = worker_of l.seat l.pass (g.C.Clock.given l.clock) (g.H.RequestHooks.sinks l.hooks) (g.H.RequestHooks.enrichers l.hooks) in
    let b = worker_of n.seat n.pass (g.C.Clock.given n.clock) (g.H.RequestHooks.sinks n.hooks) (g.H.RequestHooks.enrichers n.hooks) in
    let u = subst (λ k. Unserved (chars c.args.setting.now.deciding.plugin.now) a b k (g.T.Link.held n.link) c.in-Ok-Message.message) x.2.2 c.in-Err-answer_message.ensures.unserved in
    broken_unserved _ _ _ _ _ _ _ l.invariant.going c.judged_stays_judged.ensures.message b _ x.0 _ c.in-Ok-Message.message r x.2.0 u

pub returns-then-message-clause-served : goal.returns-then-message-clause-served
returns-then-message-clause-served g c =
    let x = rw c.in-Ok-Message.field-0-is at c.in-Ok-Message.ensures.comes in
    let r = subst (IsRead (g.T.Link.left c.loop-messages.link) x.0) (sym c.answer_message.ensures.unread.0) x.1 in
    let l = c.loop-messages in
    let n = c.answer_message.new in
    let a = worker_of l.seat l.pass (g.C.Clock.given l.clock) (g.H.RequestHooks.sinks l.hooks) (g.H.RequestHooks.enrichers l.hooks) in
    let b = worker_of n.seat n.pass (g.C.Clock.given n.clock) (g.H.RequestHooks.sinks n.hooks) (g.H.RequestHooks.enrichers n.hooks) in
    let s = subst (λ k. IsServed (chars c.args.setting.now.deciding.plugin.now) a b k (g.T.Link.held n.link) c.in-Ok-Message.message) x.2.2 c.in-Ok-answer_message.ensures.served in
    served_close _ _ _ _ _ _ _ l.invariant.going c.judged_stays_judged.ensures.message b _ x.0 _ c.in-Ok-Message.message r x.2.0 s c.if-message.true c.loop-messages-test.true

pub loop-messages-preserved : goal.loop-messages-preserved
loop-messages-preserved g c =
    let x = rw c.in-Ok-Message.field-0-is at c.in-Ok-Message.ensures.comes in
    let r = subst (IsRead (g.T.Link.left c.loop-messages.link) x.0) (sym c.answer_message.ensures.unread.0) x.1 in
    let l = c.loop-messages in
    let n = c.answer_message.new in
    let a = worker_of l.seat l.pass (g.C.Clock.given l.clock) (g.H.RequestHooks.sinks l.hooks) (g.H.RequestHooks.enrichers l.hooks) in
    let b = worker_of n.seat n.pass (g.C.Clock.given n.clock) (g.H.RequestHooks.sinks n.hooks) (g.H.RequestHooks.enrichers n.hooks) in
    let s = subst (λ k. IsServed (chars c.args.setting.now.deciding.plugin.now) a b k (g.T.Link.held n.link) c.in-Ok-Message.message) x.2.2 c.in-Ok-answer_message.ensures.served in
    record {
      live = x.2.1;
      faults = c.in-Ok-answer_message.ensures.faults ∙ c.in-Ok-Message.ensures.faults ∙ l.invariant.faults;
      within = omega (arith, c.loop-messages-test.true);
      going = going_more _ _ _ _ _ _ _ l.invariant.going c.judged_stays_judged.ensures.message b _ x.0 _ c.in-Ok-Message.message r x.2.0 s c.if-message.false;
    }

pub returns-clause-served : goal.returns-clause-served
returns-clause-served g c =
    let i = c.loop-messages.invariant in
    served_full _ _ _ _ _ _ _ i.going c.judged_stays_judged.ensures.message (omega (arith, i.within, c.loop-messages-test.false))
