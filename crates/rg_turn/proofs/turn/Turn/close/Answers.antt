use Rattle.std.proofs.Common.{◌≡◌, [], ◌∷◌, ◌++◌, length, All, arith, sym, ap, ◌∙◌, subst, append-nil}
use mathlib.Core.List.{IsPrefix}
use Rattle.atomic_table.specs.Table.{Me}
use Rattle.rg_turn.specs.declared.rule.Slot.{Slot}
use Rattle.rg_turn.specs.declared.rule.SeatView.{SeatView}
use Rattle.rg_turn.specs.Counting.{once_below}
use Rattle.rg_turn.specs.Values.{SeatValue, calls_at}
use Rattle.rg_turn.specs.Seats.{HasEnded}
use Rattle.rg_turn.proofs.Sharing.{keeps_history}
use Rattle.rg_turn.proofs.Joining.{all_at, all_begin, all_once}
use Rattle.rg_turn.proofs.turn.Turn.close.Goals as goal

pub split_seat-past-requires : goal.split_seat-past-requires
split_seat-past-requires g c =
    let Seen : Type 0 = SeatValue g.row.M-Ask.Denot g.row.M-Reply.Denot g.row.M-State.Denot in
    let e = c.join_seats-kept.ensures in
    let all = subst (All (λ (x : Seen). x.turn ≡ c.args.self.turn)) (c.in-Some.ensures.items ∙ sym (append-nil (c.pop.new.self.items ++ c.in-Some.first ∷ []))) c.requires.turn in
    let turn : c.in-Some.first.turn ≡ c.args.self.turn = all_at (λ (x : Seen). x.turn ≡ c.args.self.turn) c.pop.new.self.items [] c.in-Some.first all in
    let wide = c.self.invariant.0 in
    (e.0 ∙ ap (λ (x : Seen). x.turn.table) c.first.view_is ∙ ap (λ n. n.table) turn ∙ sym (ap (λ t. t.turn.table) c.self.view_is), omega (arith, wide), keeps_history g.M.Machine.state g.M.Machine.transition _ _ c.join_seats-kept.result.id c.join_seats-kept.result.me.0 e.2)

pub returns-clause-begins : goal.returns-clause-begins
returns-clause-begins g c =
    let Seen : Type 0 = SeatValue g.row.M-Ask.Denot g.row.M-Reply.Denot g.row.M-State.Denot in
    let V : Type 0 = SeatView g.row.M-Ask.Denot g.row.M-Reply.Denot g.row.M-State.Denot in
    let Mine : Type 0 = Me (Slot g.row.M.Denot) V in
    let v : V = c.join_seats-kept.result.me.0 in
    let e = c.split_seat-past.ensures in
    let ended = subst (λ (w : V). HasEnded g.M.Machine.state g.M.Machine.transition (g.M.Machine.state c.self.inside.table.shared.key.start.value) w c.end-machine.result) (ap {A = Mine} (λ m. m.0) e.2) c.end-machine.ensures in
    subst (λ h. All (λ (x : Seen). IsPrefix x.history h) c.args.seats.items) (sym (ap {A = Mine} (λ m. m.0.history) e.4))
    (subst (All (λ (x : Seen). IsPrefix x.history v.history)) (sym c.in-Some.ensures.items) (all_begin _ _ _ _ c.first.inside.seat c.join_seats-kept.result c.pop.new.self.items c.in-Some.first c.join_seats-kept.ensures c.first.view_is ended.3))

pub returns-clause-once : goal.returns-clause-once
returns-clause-once g c p =
    let V : Type 0 = SeatView g.row.M-Ask.Denot g.row.M-Reply.Denot g.row.M-State.Denot in
    let Mine : Type 0 = Me (Slot g.row.M.Denot) V in
    let e = c.split_seat-past.ensures in
    let ended = subst (λ (w : V). HasEnded g.M.Machine.state g.M.Machine.transition (g.M.Machine.state c.self.inside.table.shared.key.start.value) w c.end-machine.result) (ap {A = Mine} (λ m. m.0) e.2) c.end-machine.ensures in
    ap (calls_at p) c.in-Some.ensures.items ∙ all_once _ _ _ _ c.first.inside.seat c.join_seats-kept.result c.pop.new.self.items c.in-Some.first c.join_seats-kept.ensures c.first.view_is p ∙ ended.4 p ∙ ap (λ h. once_below p (length h)) (sym (ap {A = Mine} (λ m. m.0.history) e.4))
