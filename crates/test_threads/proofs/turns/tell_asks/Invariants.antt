use Rattle.std.proofs.Common.{◌≡◌}
use Rattle.test_threads.proofs.turns.tell_asks.Given as goal

abbrev pub invariant-loop-is_wanted : goal.invariant-loop-is_wanted
invariant-loop-is_wanted g l = l.seat.turn ≡ l.fn.seat.turn
