use Rattle.std.proofs.Common.{◌≡◌, ◌≤◌, ◌<◌, ℕ, ◌∷◌, false, length, drop, get_or}
use Rattle.rg_pattern.specs.Tests.{overlaps}
use Rattle.rg_pattern.proofs.overlap.fill_row.Given as goal

abbrev pub invariant-loop-at : goal.invariant-loop-at
invariant-loop-at l = record {
  within : l.at ≤ length l.other;
  diagonal : l.diagonal ≡ overlaps l.fold l.after (drop l.at l.other);
  right : l.right ≡ overlaps l.fold (l.atom ∷ l.after) (drop l.at l.other);
  done : (k : ℕ) → l.at ≤ k → k ≤ length l.other → get_or l.row k false ≡ overlaps l.fold (l.atom ∷ l.after) (drop k l.other);
  left : (k : ℕ) → k < l.at → get_or l.row k false ≡ overlaps l.fold l.after (drop k l.other);
}
