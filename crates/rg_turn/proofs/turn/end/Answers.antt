use Rattle.std.proofs.Common.{◌≡◌, sym, ◌∙◌, subst}
use mathlib.Core.Option.{some-injective}
use Rattle.rg_turn.specs.declared.rule.Slot.{Slot}
use Rattle.rg_turn.specs.Rule.{IsAfter}
use Rattle.rg_turn.proofs.Sharing.{closes}
use Rattle.rg_turn.proofs.turn.end.Goals as goal

pub returns : goal.returns
returns g c =
    let D : Type 0 = Slot g.row.M.Denot in
    let state = g.M.Machine.state in
    let transition = g.M.Machine.transition in
    let start : g.row.M-State.Denot = state c.args.table.shared.key.start.value in
    let v = c.args.seat.me.0 in
    let idle = c.requires.idle in
    let whole = c.requires.whole in
    let f = c.close_with-closed.ensures.values.2 in
    let x = closes state transition start _ f.0 c.args.seat.id v f.1 idle.0 idle.1 whole.0 whole.1 in
    let same : x.0 ≡ c.take-slot.result = some-injective x.0 c.take-slot.result (sym (f.4 0 x.0 x.1) ∙ c.take-slot.ensures.value) in
    (subst (λ (d : D). IsAfter state transition start v.history d) same x.2, x.3, x.4, x.5, x.6)
