use Rattle.std.proofs.Common.{◌≡◌, length, get_or, ap, arith}
use Rattle.rg_rest.specs.declared.route.Route.TheVariants as the
use Rattle.rg_rest.proofs.Knowing.{all_known, held_next}
use Rattle.rg_rest.proofs.path.Paths.new.Goals as goal

pub loop-route-preserved : goal.loop-route-preserved
loop-route-preserved c = record {
  routes = c.in_ok-add.ensures.routes c.loop-route.invariant.routes;
  has = held_next c.loop-route.patterns c.add.new.patterns c.loop-route.route-index _ c.in_ok-add.ensures (ap (λ routes. get_or routes c.loop-route.route-index the.PutDef) c.paths-route-items.ensures) c.loop-route.invariant.has;
}

pub invariant_of-result : goal.invariant_of-result
invariant_of-result c =
    let len : length c.paths-route-items.result.now ≡ 16 = ap length c.paths-route-items.ensures in
    record { routes = c.loop-route.invariant.routes; all = all_known c.loop-route.patterns (λ k l. c.loop-route.invariant.has k (omega (arith, len, l, c.loop-route-test.false))) }
