use Rattle.std.proofs.Common.{◌≡◌, true}
use Rattle.bench_figures.proofs.http.framed.Given as goal

abbrev pub invariant-loop : goal.invariant-loop
invariant-loop l = l.framer.live ≡ true
