use Rattle.std.proofs.Common.{◌<◌, ℕ, All}
use Rattle.test_values.proofs.ports.sizes.Given as goal

abbrev pub invariant-loop-word : goal.invariant-loop-word
invariant-loop-word l = record { positive : All (λ (size : ℕ). 0 < size) l.list.items }
