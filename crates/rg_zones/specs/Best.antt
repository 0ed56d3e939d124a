-- For proofs alone: the least of the pairs that pass a test.
use Rattle.std.specs.Prelude.{ℕ, ◌&&◌, ◌||◌, nat_eq, nat_lt, Bool, true, Option, Some, None, if◌then◌else◌}

-- the first pair comes before the second, or there is none
abbrev pub is_less : ℕ × ℕ → Option (ℕ × ℕ) → Bool
is_less p None = true
is_less p (Some b) = nat_lt p.0 b.0 || (nat_eq p.0 b.0 && nat_lt p.1 b.1)

-- the lesser place first
abbrev pub ordered : ℕ → ℕ → ℕ × ℕ
ordered i j = if nat_lt i j then (i, j) else (j, i)

-- the pair, where it is less than the best so far and passes
abbrev pub better : (ℕ × ℕ → Bool) → Option (ℕ × ℕ) → ℕ × ℕ → Option (ℕ × ℕ)
better test best p = if is_less p best && test p then Some p else best
