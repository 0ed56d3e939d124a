use Rattle.std.proofs.Common.{◌≡◌, ◌≤◌, ℕ, [], false, length, drop, get_or}
use Rattle.rg_pattern.specs.Tests.{overlaps}
use Rattle.rg_pattern.proofs.overlap.fill_last_row.Given as goal

abbrev pub invariant-loop-at : goal.invariant-loop-at
invariant-loop-at l = record {
  within : l.at ≤ length l.other;
  right : l.right ≡ overlaps l.fold [] (drop l.at l.other);
  done : (k : ℕ) → l.at ≤ k → k ≤ length l.other → get_or l.row k false ≡ overlaps l.fold [] (drop k l.other);
}
