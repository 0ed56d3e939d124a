use Rattle.std.proofs.Common.{◌≡◌}
use Rattle.bench_figures.proofs.turn.called.Given as goal

abbrev pub invariant-loop : goal.invariant-loop
invariant-loop g l = l.seat.turn ≡ l.initial.seat.turn
