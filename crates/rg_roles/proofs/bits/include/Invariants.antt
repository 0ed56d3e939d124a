use Rattle.std.proofs.Common.{◌≡◌, ◌||◌, ℕ, length, take}
use Rattle.rg_roles.specs.Places.{has}
use Rattle.rg_roles.proofs.bits.include.Given as goal

abbrev pub invariant-loop-at : goal.invariant-loop-at
invariant-loop-at l = (length l.words ≡ length l.initial.words) × ((k : ℕ) → has l.words k ≡ (has l.initial.words k || has (take l.at l.others) k))
