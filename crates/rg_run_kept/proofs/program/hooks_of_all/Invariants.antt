use Rattle.std.proofs.Common.{◌≡◌, length}
use Rattle.rg_run_kept.proofs.program.hooks_of_all.Given as goal

abbrev pub invariant-loop-made : goal.invariant-loop-made
invariant-loop-made l = length l.all.items ≡ l.made
