use Rattle.std.proofs.Common.{◌≡◌, ◌+◌, ◌++◌, ◌∷◌, [], List, subst, sym, arith, length}
use Rattle.rg_publish.specs.Passes.{Seeing}
use Rattle.rg_serve.specs.Held.{AreWorked}
use Rattle.rg_serve.specs.Trails.{Seated}
use Rattle.rg_serve.proofs.Alls.{grew}
use Rattle.rg_serve.proofs.Gathering.{one_worked}
use Rattle.rg_serve.proofs.ending.gather.Goals as goal

pub loop-place-preserved : goal.loop-place-preserved
loop-place-preserved g c =
    let turn = g.J.Naming.turn in
    let opening = g.J.Naming.opening in
    let plugin = g.J.Naming.plugin in
    let inv = c.loop-place.invariant in
    let seats : List Seated = c.loop-place.seats.items in
    let passes : List Seeing = c.loop-place.passes.items in
    let seat = c.in_ok-seat.seat in
    let pass = c.in_ok-seat.pass in
    let amount = c.in_ok-seat.share.amount in
    let n = inv.2.0 in
    let more = one_worked turn opening plugin seats passes n inv.2.2 seat pass amount c.in_ok-seat.ensures.seated.0 c.in_ok-seat.ensures.seated.1 c.in_ok-seat.ensures.trail in
    let longer : length c.add.new.all.items ≡ length seats + 1 = grew _ _ _ c.in_ok-add.ensures in (
      omega (arith, inv.0, longer, grew _ _ _ c.in-Some.ensures.items),
      omega (arith, inv.1, longer, c.merge.ensures.parts, c.in_ok-seat.ensures.part),
      (
        n + amount,
        omega (arith, inv.2.1, c.merge.ensures.amount),
        subst (λ (l : List Seeing). AreWorked turn opening plugin c.add.new.all.items l (n + amount)) (sym {A = List Seeing} c.in_ok-add-2.ensures)
            (subst (λ (l : List Seated). AreWorked turn opening plugin l (passes ++ pass ∷ []) (n + amount)) (sym {A = List Seated} c.in_ok-add.ensures) more),
      ),
    )
