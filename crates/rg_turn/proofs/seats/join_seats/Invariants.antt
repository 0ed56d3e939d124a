use Rattle.std.proofs.Common.{◌≡◌, ◌++◌, List, length}
use Rattle.rg_turn.specs.Values.{SeatValue}
use Rattle.rg_turn.specs.Seats.{HasJoined}
use Rattle.rg_turn.proofs.seats.join_seats.Given as goal

abbrev pub invariant-loop-next : goal.invariant-loop-next
invariant-loop-next g l = (done : List (SeatValue g.row.M-Ask.Denot g.row.M-Reply.Denot g.row.M-State.Denot)) × (l.initial.seats.items ≡ l.seats.items ++ done) × HasJoined l.initial.kept done l.kept

abbrev pub decreases-loop-next : goal.decreases-loop-next
decreases-loop-next g l = length l.seats.items
