use Rattle.std.proofs.Common.{[], ◌∷◌, Some, refl, sym, ap, subst}
use Rattle.atomic_table.specs.Table.{opening}
use Rattle.rg_turn.specs.Rule.{RuleHolds}
use Rattle.rg_turn.specs.View.{opening_view}
use Rattle.rg_turn.proofs.Sharing.{opens}
use Rattle.rg_turn.proofs.turn.open.Goals as goal

pub new-requires : goal.new-requires
new-requires g c =
    let state = g.M.Machine.state in
    let transition = g.M.Machine.transition in
    let x : g.row.M-State.Denot = state c.of.result.value in
    subst (λ l. RuleHolds state transition x c.args.seats (opening (0 ∷ 0 ∷ []) l (opening_view x c.args.seats c.args.seats))) (sym c.in_ok-slots.ensures)
    (opens state transition x c.args.seats record { machine = Some c.args.machine; entries = 0 } c.args.machine refl (sym (ap state c.of.ensures)) refl c.requires)
