-- For proofs: values joined one after the other.
use Rattle.std.specs.Prelude.{ℕ, List, ◌∷◌, ◌++◌, Option, Some, None}

-- a text with one more value, where there is one, behind a `/` where it isn't the first
abbrev pub after_value : Option (List ℕ) → Option (List ℕ) → Option (List ℕ)
after_value text None = text
after_value None (Some v) = Some v
after_value (Some t) (Some v) = Some (t ++ 47 ∷ v)
