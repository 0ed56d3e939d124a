use Rattle.std.proofs.Common.{◌≡◌, ◌+◌, All, length}
use Rattle.rg_turn.specs.Values.{new_seat}
use Rattle.rg_publish.specs.Passes.{new_pass}
use Rattle.rg_serve.proofs.places.places_of.Given as goal

abbrev pub invariant-loop-seat : goal.invariant-loop-seat
invariant-loop-seat g l =
    All (λ s. s ≡ new_seat g.J.Naming.turn) l.seats.items × All (λ p. p ≡ new_pass g.J.Naming.opening) l.passes.items
    × (length l.places.items + length l.seats.items ≡ length l.fn.seats.items) × (l.share.amount ≡ 0) × (l.share.parts ≡ length l.seats.items + 1)

abbrev pub decreases-loop-seat : goal.decreases-loop-seat
decreases-loop-seat g l = length l.seats.items
