use Rattle.std.proofs.Common.{arith, refl, subst}
use Rattle.rg_serve.specs.Opened.{Opened}
use Rattle.rg_serve.specs.Served.{HasServed}
use Rattle.rg_serve.proofs.Bounds.{at_most}
use Rattle.rg_serve.proofs.serving.serve.Goals as goal

pub returns-in-Ok-clause-few : goal.returns-in-Ok-clause-few
returns-in-Ok-clause-few g c =
    let t = c.in-Ok.served.totals in
    let low = at_most c.opened.inside.begun.turn.start t.past.history t.published.list c.in-Ok.ensures.right in
    omega (arith, low, c.in-Ok.ensures.published.1)

pub returns-in-Ok-clause-served : goal.returns-in-Ok-clause-served
returns-in-Ok-clause-served g c =
    let o = c.opened.inside.begun in
    let s = c.in-Ok.served in
    subst (λ (o : Opened). HasServed o s.links s.totals.past.history s.totals.published.list s.totals.decisions) c.opened.view_is
    (record { turn = o.turn.turn; book = o.refresher.publisher.book; refresher = o.seat; history = refl; calls = refl; served = c.in-Ok.ensures.served })
