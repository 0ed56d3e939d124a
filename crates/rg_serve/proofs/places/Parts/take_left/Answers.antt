use Rattle.std.proofs.Common.{refl}
use Rattle.rg_serve.proofs.Trailing.{one_more}
use Rattle.rg_serve.proofs.places.Parts.take_left.Goals as goal

pub invariant_of-self-else-hold_session : goal.invariant_of-self-else-hold_session
invariant_of-self-else-hold_session g c =
    let p = c.self.inside in
    let e = c.if-hold_session.ensures in
    one_more g.J.Naming.turn g.J.Naming.opening g.J.Naming.plugin p.seat p.pass p.share.parts p.share.amount p.is_short
    c.self.invariant g.J.Naming.plugin refl c.hold_session.new.seat c.hold_session.new.pass c.pop.new.mine.parts c.pop.new.mine.amount
    e.same.0 e.same.1 c.in-Some.ensures.parts c.in-Some.ensures.some (e.session refl)
