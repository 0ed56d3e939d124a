use Rattle.std.proofs.Common.{Some, ap, ◌∙◌, subst}
use mathlib.Core.List.{IsPrefix}
use Rattle.atomic_table.specs.Table.{Me}
use Rattle.rg_turn.specs.declared.rule.Slot.{Slot}
use Rattle.rg_turn.specs.declared.rule.SeatView.{SeatView}
use Rattle.rg_turn.proofs.Calls.{stays_sound, counts_call, counts_none, stays_legal, legal_from, start_stays, goes_on, served_legal, served_begins}
use Rattle.rg_turn.proofs.turn.Turn.call.Goals as goal

pub invariant_of-seat : goal.invariant_of-seat
invariant_of-seat g c =
    let state = g.M.Machine.state in
    let transition = g.M.Machine.transition in
    let i = c.seat.invariant in
    let drew = c.take_ticket-ticket.ensures.drawn in
    let look = c.await_turn.ensures.served in
    let s = stays_sound state transition c.seat.inside.seat.me c.take_ticket-ticket.new.seat.me c.await_turn.new.seat.me c.answer.new.seat.me _ c.args.ask c.answer.result drew look c.answer.ensures.passed c.answer.ensures.reply i.0.3 i.0.4 i.2 i.3 in
    (s.0, counts_none state transition c.seat.inside.seat.me c.take_ticket-ticket.new.seat.me c.await_turn.new.seat.me c.answer.new.seat.me _ c.seat.inside.made drew look c.in_err-reply.ensures.passed i.1, s.1, s.2)

pub invariant_of-seat-2 : goal.invariant_of-seat-2
invariant_of-seat-2 g c =
    let state = g.M.Machine.state in
    let transition = g.M.Machine.transition in
    let i = c.seat.invariant in
    let drew = c.take_ticket-ticket.ensures.drawn in
    let look = c.await_turn.ensures.served in
    let s = stays_sound state transition c.seat.inside.seat.me c.take_ticket-ticket.new.seat.me c.await_turn.new.seat.me c.answer.new.seat.me _ c.args.ask c.answer.result drew look c.answer.ensures.passed c.answer.ensures.reply i.0.3 i.0.4 i.2 i.3 in
    (s.0, counts_call state transition c.seat.inside.seat.me c.take_ticket-ticket.new.seat.me c.await_turn.new.seat.me c.answer.new.seat.me _ c.args.ask c.in_ok-reply.reply c.seat.inside.made drew look c.in_ok-reply.ensures.passed i.1, s.1, s.2)

pub returns-clause-legal : goal.returns-clause-legal
returns-clause-legal g c =
    let Mine : Type 0 = Me (Slot g.row.M.Denot) (SeatView g.row.M-Ask.Denot g.row.M-Reply.Denot g.row.M-State.Denot) in
    let state = g.M.Machine.state in
    let transition = g.M.Machine.transition in
    let passed = c.answer.ensures.passed in
    let legal = stays_legal state transition c.args.ask c.await_turn.new.seat.me.0 c.answer.new.seat.me c.answer.result passed c.answer.ensures.reply (served_legal state transition c.take_ticket-ticket.new.seat.me c.await_turn.new.seat.me c.await_turn.ensures.served) in
    let start = start_stays state transition c.args.ask c.await_turn.new.seat.me.0 c.answer.new.seat.me c.answer.result passed ∙ ap {A = Mine} (λ m. m.0.start) c.await_turn.ensures.served.4 ∙ c.await_turn.ensures.opening in
    legal_from state transition c.answer.new.seat.me.0 c.args.self.now.start legal (start ∙ ap (λ t. Some t.start) c.self.view_is)

pub returns-clause-begins : goal.returns-clause-begins
returns-clause-begins g c =
    let Mine : Type 0 = Me (Slot g.row.M.Denot) (SeatView g.row.M-Ask.Denot g.row.M-Reply.Denot g.row.M-State.Denot) in
    let state = g.M.Machine.state in
    let transition = g.M.Machine.transition in
    let begun = subst (λ h. IsPrefix h c.await_turn.new.seat.me.0.history) (ap {A = Mine} (λ m. m.0.history) c.take_ticket-ticket.ensures.drawn ∙ ap (λ s. s.history) c.seat.view_is) (served_begins state transition c.take_ticket-ticket.new.seat.me c.await_turn.new.seat.me c.await_turn.ensures.served) in
    goes_on state transition c.args.seat.now.history c.args.ask c.await_turn.new.seat.me.0 c.answer.new.seat.me c.answer.result c.answer.ensures.passed begun

pub returns-clause-each_once : goal.returns-clause-each_once
returns-clause-each_once g c =
    let i = c.seat.invariant in
    (stays_sound g.M.Machine.state g.M.Machine.transition c.seat.inside.seat.me c.take_ticket-ticket.new.seat.me c.await_turn.new.seat.me c.answer.new.seat.me _ c.args.ask c.answer.result c.take_ticket-ticket.ensures.drawn c.await_turn.ensures.served c.answer.ensures.passed c.answer.ensures.reply i.0.3 i.0.4 i.2 i.3).1.0

pub returns-clause-one_seat : goal.returns-clause-one_seat
returns-clause-one_seat g c =
    let i = c.seat.invariant in
    (stays_sound g.M.Machine.state g.M.Machine.transition c.seat.inside.seat.me c.take_ticket-ticket.new.seat.me c.await_turn.new.seat.me c.answer.new.seat.me _ c.args.ask c.answer.result c.take_ticket-ticket.ensures.drawn c.await_turn.ensures.served c.answer.ensures.passed c.answer.ensures.reply i.0.3 i.0.4 i.2 i.3).2
