use Rattle.std.proofs.Common.{◌<◌, length, sym, subst, arith}
use Rattle.std.proofs.lemmas.List.{take_more}
use Rattle.rg_roles.specs.Places.{IsGrown}
use Rattle.rg_roles.proofs.Walks.{grown_more}
use Rattle.rg_roles.proofs.walk.visit_all.Goals as goal

pub loop-place-preserved : goal.loop-place-preserved
loop-place-preserved c =
    let places = c.args.places.now in
    let within : c.loop-place.place-index < length places = omega arith in (
      c.in_ok-visit.ensures.marked,
      subst (λ ps. IsGrown ps c.args.found.now.items c.visit.new.found.items) (sym (take_more places c.loop-place.place-index 0 within))
          (grown_more _ _ _ _ _ c.loop-place.invariant.1 c.in_ok-visit.ensures.grown),
    )
