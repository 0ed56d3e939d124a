use Rattle.std.proofs.Common.{◌≡◌, length}
use Rattle.example_installation.proofs.main.Given as goal

abbrev pub invariant-loop-made : goal.invariant-loop-made
invariant-loop-made g l = length l.workers.items ≡ l.made
