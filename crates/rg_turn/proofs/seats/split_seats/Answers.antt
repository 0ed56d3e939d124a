use Rattle.std.proofs.Common.{◌≡◌, ◌+◌, ◌-◌, [], arith, sym, ap, ◌∙◌}
use Rattle.atomic_table.specs.Table.{Me}
use Rattle.rg_turn.specs.declared.rule.Slot.{Slot}
use Rattle.rg_turn.specs.declared.rule.SeatView.{SeatView}
use Rattle.rg_turn.specs.View.{opening_view, lightened, split_off}
use Rattle.rg_turn.specs.Seats.{seat_value}
use Rattle.rg_turn.proofs.Sharing.{gives_weight}
use Rattle.rg_turn.proofs.Calls.{alike, one_more}
use Rattle.rg_turn.proofs.seats.split_seats.Goals as goal

pub split_seat-part-requires : goal.split_seat-part-requires
split_seat-part-requires g c =
    let Mine : Type 0 = Me (Slot g.row.M.Denot) (SeatView g.row.M-Ask.Denot g.row.M-Reply.Denot g.row.M-State.Denot) in
    let i = c.loop-number.invariant in
    let me = i.1.2 in
    let w = ap {A = Mine} (λ m. m.0.weight) me in
    let t = c.requires.table in
    (i.0 ∙ t.0, omega (arith, t.1), gives_weight g.M.Machine.state g.M.Machine.transition _ _ c.loop-number.seat.id c.loop-number.seat.me.0 (ap {A = Mine} (λ m. m.0.has_ticket) me) (ap {A = Mine} (λ m. m.0.is_served) me) (omega (arith, w, c.loop-number-test.true, c.loop-number.auto.number)))

pub loop-number-preserved : goal.loop-number-preserved
loop-number-preserved g c =
    let V : Type 0 = SeatView g.row.M-Ask.Denot g.row.M-Reply.Denot g.row.M-State.Denot in
    let Mine : Type 0 = Me (Slot g.row.M.Denot) V in
    let i = c.loop-number.invariant in
    let me : c.loop-number.seat.me ≡ (opening_view i.1.0 c.args.seats ((c.args.seats + 1) - c.loop-number.number), []) = i.1.2 in
    let e = c.split_seat-part.ensures in
    let at_first = c.requires.first.1 in
    let new : c.split_seat-part.result.me ≡ (split_off (opening_view i.1.0 c.args.seats ((c.args.seats + 1) - c.loop-number.number)), []) = e.4 ∙ ap {A = Mine} (λ m. (split_off m.0, [])) me in
    let same = alike c.split_seat-part.result c.args.seat (e.3 ∙ i.0) (ap {A = Mine} (λ m. m.0.seats) new ∙ sym (ap {A = Mine} (λ m. m.0.seats) at_first)) (ap {A = Mine} (λ m. m.0.start) new ∙ sym i.1.1)
    (ap {A = Mine} (λ m. m.0.history) new ∙ sym (ap {A = Mine} (λ m. m.0.history) at_first)) (ap {A = Mine} (λ m. m.0.calls) new ∙ sym (ap {A = Mine} (λ m. m.0.calls) at_first)) in
    let down : ((c.args.seats + 1) - c.loop-number.number) - 1 ≡ (c.args.seats + 1) - (c.loop-number.number + 1) = omega arith in (
      e.0 ∙ i.0,
      (i.1.0, i.1.1, e.2 ∙ ap {A = Mine} (λ m. (lightened m.0, m.1)) me ∙ ap (λ k. (opening_view i.1.0 c.args.seats k, [])) down),
      one_more c.loop-number.all.items c.add.new.all.items (c.loop-number.number - 1) _ (seat_value c.args.seat) c.unused.result c.in_ok-add.ensures i.2 (c.unused.ensures ∙ same) (omega (arith, c.loop-number.auto.number)),
    )

pub returns : goal.returns
returns g c =
    let V : Type 0 = SeatView g.row.M-Ask.Denot g.row.M-Reply.Denot g.row.M-State.Denot in
    let Mine : Type 0 = Me (Slot g.row.M.Denot) V in
    let i = c.loop-number.invariant in
    let me : c.loop-number.seat.me ≡ (opening_view i.1.0 c.args.seats ((c.args.seats + 1) - c.loop-number.number), []) = i.1.2 in
    let at_first = c.requires.first.1 in
    let same = alike c.loop-number.seat c.args.seat i.0 (ap {A = Mine} (λ m. m.0.seats) me ∙ sym (ap {A = Mine} (λ m. m.0.seats) at_first)) (ap {A = Mine} (λ m. m.0.start) me ∙ sym i.1.1)
    (ap {A = Mine} (λ m. m.0.history) me ∙ sym (ap {A = Mine} (λ m. m.0.history) at_first)) (ap {A = Mine} (λ m. m.0.calls) me ∙ sym (ap {A = Mine} (λ m. m.0.calls) at_first)) in
    one_more c.loop-number.all.items c.add-2.new.all.items (c.loop-number.number - 1) c.args.seats (seat_value c.args.seat) c.unused-2.result c.in_ok-add-2.ensures i.2 (c.unused-2.ensures ∙ same) (omega (arith, c.loop-number.auto.number, c.loop-number.auto.number-end, c.loop-number-test.false, c.requires.table.2))
