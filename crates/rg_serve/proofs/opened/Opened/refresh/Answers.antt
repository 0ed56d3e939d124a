use Rattle.std.proofs.Common.{◌≡◌, arith, length, refl, subst}
use Rattle.std.proofs.lemmas.Bool.Decides.{nat_tests}
use Rattle.rg_serve.specs.Held.{held}
use Rattle.rg_serve.specs.Opened.{IsRefreshed, Opened}
use Rattle.rg_serve.proofs.Opening.{refreshed, refreshed_held}
use Rattle.rg_serve.proofs.opened.Opened.refresh.Goals as goal

pub returns-in-Ok : goal.returns-in-Ok
returns-in-Ok g c =
    let turn = c.self.inside.begun.turn in
    let refresher = c.self.inside.begun.refresher in
    let seats = c.self.inside.begun.seats.items in
    let list = c.refresh.new.self.publisher.list in
    let first : c.refresh.new.self.seq ≡ length c.self.inside.begun.seat.calls = grind (arith, nat_tests) in
    subst (λ (o : Opened). IsRefreshed o c.in-Ok.refresh (held turn c.refresh.new.seat list seats)) c.self.view_is
    (refreshed c.self.inside.begun.seat c.refresh.new.seat refresher.service refresher.publisher.list list c.refresh.new.self.seq c.in-Ok.refresh turn seats
    c.self.invariant.counted c.self.invariant.serves first c.in-Ok.ensures.downloaded c.in-Ok.ensures.refreshed)

pub invariant_of-result : goal.invariant_of-result
invariant_of-result g c =
    let refresher = c.self.inside.begun.refresher in
    let now = c.refresh.new.self in
    let e = c.in-Ok.ensures in
    let first : now.seq ≡ length c.self.inside.begun.seat.calls = grind (arith, nat_tests) in
    refreshed_held c.self.inside.begun.seat c.refresh.new.seat refresher.service refresher.publisher.list now.publisher.list now.seq c.in-Ok.refresh c.self.inside.begun.turn c.self.inside.begun.seats.items
    c.self.invariant.counted c.self.invariant.serves first e.downloaded e.refreshed
    refresher.publisher now.publisher c.self.inside.begun.passes.items refl refl c.self.invariant (e.same.0, e.same.1) now.service e.same.2 e.right (e.made c.self.invariant.made)
