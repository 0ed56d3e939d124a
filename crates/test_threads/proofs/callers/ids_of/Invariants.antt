use Rattle.std.proofs.Common.{◌≡◌}
use Rattle.test_threads.proofs.callers.ids_of.Given as goal

abbrev pub invariant-loop-number : goal.invariant-loop-number
invariant-loop-number g l = l.seat.turn ≡ l.initial.seat.turn
