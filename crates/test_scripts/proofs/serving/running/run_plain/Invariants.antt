use Rattle.std.proofs.Common.{◌≡◌, length}
use Rattle.test_scripts.proofs.serving.running.run_plain.Given as goal

abbrev pub invariant-loop-made : goal.invariant-loop-made
invariant-loop-made g l = length l.workers.items ≡ l.made
