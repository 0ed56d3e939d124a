use Rattle.std.proofs.Common.{◌≡◌, ◌-◌, ◌+◌, [], replicate, Some}
use Rattle.rg_turn.specs.View.{opening_view}
use Rattle.rg_turn.specs.Seats.{seat_value}
use Rattle.rg_turn.proofs.seats.split_seats.Given as goal

abbrev pub invariant-loop-number : goal.invariant-loop-number
invariant-loop-number g l = (l.seat.table_id ≡ l.initial.seat.table_id) × ((x : g.row.M-State.Denot) × (l.initial.seat.me.0.start ≡ Some x) × (l.seat.me ≡ (opening_view x l.seats ((l.seats + 1) - l.number), [])))
    × (l.all.items ≡ replicate (l.number - 1) (seat_value l.initial.seat))
