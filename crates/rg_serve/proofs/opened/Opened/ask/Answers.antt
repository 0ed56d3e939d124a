use Rattle.std.proofs.Common.{subst}
use Rattle.rg_serve.specs.Held.{held}
use Rattle.rg_serve.specs.Opened.{IsAsked, Opened}
use Rattle.rg_serve.proofs.Opening.{asked}
use Rattle.rg_serve.proofs.opened.Opened.ask.Goals as goal

pub returns-in-Ok : goal.returns-in-Ok
returns-in-Ok g c =
    let turn = c.self.inside.begun.turn in
    let list = c.self.inside.begun.refresher.publisher.list in
    let seats = c.self.inside.begun.seats.items in
    subst (λ (o : Opened). IsAsked o c.args.ask c.in-Ok.reply (held turn c.call.new.seat list seats)) c.self.view_is
    (asked c.self.inside.begun.seat c.call.new.seat c.args.ask c.in-Ok.reply c.self.invariant.counted c.in-Ok.ensures.call turn seats list c.one_more_entry.ensures.reply c.in-Ok.ensures.legal)
