-- What a `Seq` is: its items in order, and how many pushes are known to succeed.
use Rattle.std.specs.Prelude.{ℕ, ◌-◌, List, [], ◌∷◌, ◌++◌}

pub record Listed (T : Type 0) : Type 0 where
  pub items : List T
  pub spare : ℕ

-- these items, with no place reserved
abbrev pub listed : {T : Type 0} → List T → Listed T
listed xs = record { items = xs; spare = 0 }

-- one more item at the end, in the reserved place if there is one
abbrev pub added : {T : Type 0} → Listed T → T → Listed T
added s x = record { items = s.items ++ x ∷ []; spare = s.spare - 1 }
