use Rattle.std.proofs.Common.{◌≡◌, ◌+◌, ℕ, length}
use Rattle.rg_serve.specs.Held.{AreWorked}
use Rattle.rg_serve.proofs.ending.gather.Given as goal

abbrev pub invariant-loop-place : goal.invariant-loop-place
invariant-loop-place g l =
    (length l.places.items + length l.seats.items ≡ length l.fn.places.items) × (l.all.parts ≡ l.initial.all.parts + length l.seats.items)
    × ((n : ℕ) × (l.all.amount ≡ l.initial.all.amount + n) × AreWorked g.J.Naming.turn g.J.Naming.opening g.J.Naming.plugin l.seats.items l.passes.items n)

abbrev pub decreases-loop-place : goal.decreases-loop-place
decreases-loop-place g l = length l.places.items
