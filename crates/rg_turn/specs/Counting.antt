-- Positions in a history, and how often they stand in lists.
use Rattle.std.specs.Prelude.{ℕ, zero, suc, ◌+◌, ◌==◌, if◌then◌else◌, nat_lt, List, [], ◌∷◌, ◌++◌}

-- how often the position p stands in the list
abbrev pub times : ℕ → List ℕ → ℕ
times p [] = 0
times p (q ∷ qs) = (if q == p then 1 else 0) + times p qs

-- 1 for each position below n, and 0 for any other
abbrev pub once_below : ℕ → ℕ → ℕ
once_below p n = if nat_lt p n then 1 else 0

-- the positions below n, in order
abbrev pub positions : ℕ → List ℕ
positions zero = []
positions (suc n) = positions n ++ n ∷ []

-- the sum of f over the list
abbrev pub total : {V : Type 0} → (V → ℕ) → List V → ℕ
total f [] = 0
total f (v ∷ vs) = f v + total f vs
