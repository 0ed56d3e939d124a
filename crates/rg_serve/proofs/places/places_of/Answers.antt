use Rattle.std.proofs.Common.{◌≡◌, All, List, [], ◌∷◌, length, ap, subst, arith, length-append}
use Rattle.rg_turn.specs.Values.{new_seat}
use Rattle.rg_publish.specs.Passes.{Seeing, new_pass}
use Rattle.rg_serve.specs.Trails.{Seated}
use Rattle.rg_serve.proofs.Alls.{all_front}
use Rattle.rg_serve.proofs.places.places_of.Goals as goal

pub loop-seat-preserved : goal.loop-seat-preserved
loop-seat-preserved g c =
    let inv = c.loop-seat.invariant in
    let P : Seated → Type 0 = λ s. s ≡ new_seat g.J.Naming.turn in
    let Q : Seeing → Type 0 = λ p. p ≡ new_pass g.J.Naming.opening in
    let seats : List Seated = c.pop.new.self.items in
    let passes : List Seeing = c.pop-in-Some.new.self.items in (
      all_front P seats c.in-Some.seat (subst (λ (l : List Seated). All P l) c.in-Some.ensures.items inv.0),
      all_front Q passes c.in-Some-pop.pass (subst (λ (l : List Seeing). All Q l) c.in-Some-pop.ensures.items inv.1),
      omega (arith, inv.2, ap length c.in-Some.ensures.items, length-append seats (c.in-Some.seat ∷ []), ap length c.in_ok-add.ensures, length-append c.loop-seat.places.items (c.new-in-Some.result ∷ [])),
      omega (arith, inv.3, c.split_off-part.ensures.amount_left),
      omega (arith, inv.4, c.split_off-part.ensures.parts_left, ap length c.in-Some.ensures.items, length-append seats (c.in-Some.seat ∷ [])),
    )

pub overflow_cast-number : goal.overflow_cast-number
overflow_cast-number g c =
    omega (arith, c.loop-seat.invariant.2, c.requires.few, ap length c.in-Some.ensures.items, length-append c.pop.new.self.items (c.in-Some.seat ∷ []), c.len-number.ensures, c.pop.new.self.ok.0)
