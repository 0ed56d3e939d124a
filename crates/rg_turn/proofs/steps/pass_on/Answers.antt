use Rattle.std.proofs.Common.{arith, sym, subst}
use Rattle.rg_turn.specs.Steps.{IsReturned}
use Rattle.rg_turn.proofs.Moves.{passes}
use Rattle.rg_turn.proofs.steps.pass_on.Goals as goal

pub fetch_add-served-requires : goal.fetch_add-served-requires
fetch_add-served-requires g c = let t = c.requires.table in let l = c.requires.live in let h = c.requires.returned in
    (t.0, omega arith, passes _ _ _ _ _ _ _ h.1 g.T.AddsEntry.added h.3 l.1 l.0 h.0 h.2 (subst (λ m. IsReturned g.M.Machine.state g.M.Machine.transition h.0 c.args.seat.now.me.0.history m h.1) (sym c.requires.added) h.4))
