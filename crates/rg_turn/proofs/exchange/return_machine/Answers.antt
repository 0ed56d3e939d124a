use Rattle.std.proofs.Common.{◌≡◌, ℕ, List, [], ◌∷◌, length, Some, refl, sym, ap, ◌∙◌, subst}
use Rattle.atomic_table.specs.Table.{Me, rest}
use Rattle.rg_turn.specs.declared.rule.Slot.{Slot}
use Rattle.rg_turn.specs.declared.rule.SeatView.{SeatView}
use Rattle.rg_turn.specs.History.{state_after}
use Rattle.rg_turn.specs.Steps.{IsAnswered, call_of}
use Rattle.rg_turn.proofs.exchange.return_machine.Goals as goal

pub pass_on-requires-clause-returned : goal.pass_on-requires-clause-returned
pass_on-requires-clause-returned g c =
    let D : Type 0 = Slot g.row.M.Denot in
    let V : Type 0 = SeatView g.row.M-Ask.Denot g.row.M-Reply.Denot g.row.M-State.Denot in
    let d : D = record { machine = Some c.args.machine; entries = c.args.entries } in
    let v : V = c.args.seat.now.me.0 in
    let me : c.exchange.new.seat.me ≡ (v, (0, d) ∷ []) = c.exchange.ensures.3 ∙ ap (λ (l : List (ℕ × D)). (v, (0, d) ∷ rest l)) c.requires.holds.1 in
    let st = c.requires.answered in (
      st.0,
      d,
      ap (λ (m : Me D V). m.0.start) me ∙ st.1,
      ap (λ (m : Me D V). m.1) me,
      (c.args.machine, refl, subst (λ (w : V). IsAnswered g.M.Machine.state g.M.Machine.transition (state_after g.M.Machine.transition st.0 w.history) (length w.history) (call_of c.args.added) (g.M.Machine.state c.args.machine) c.args.entries) (sym (ap (λ (m : Me D V). m.0) me)) st.2),
    )
