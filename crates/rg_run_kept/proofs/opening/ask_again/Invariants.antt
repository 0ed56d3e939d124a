use Rattle.std.proofs.Common.{◌≡◌}
use Rattle.rg_run_kept.proofs.opening.ask_again.Given as goal

abbrev pub invariant-loop : goal.invariant-loop
invariant-loop g l = (l.opened.start ≡ l.fn.opened.start) × (l.opened.workers ≡ l.fn.opened.workers)
