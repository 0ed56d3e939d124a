-- Texts and lists of texts.
use Rattle.std.specs.Prelude.{ℕ, ◌&&◌, nat_lt, nat_le, Bool, true, false, not, List, [], ◌∷◌, length}
use Rattle.std.specs.List.{list_any}
use Rattle.std.specs.Str.{bytes_eq}

-- the text has no character
abbrev pub is_empty : List ℕ → Bool
is_empty [] = true
is_empty (c ∷ t) = false

-- the text is one of these
abbrev pub is_among : List ℕ → List (List ℕ) → Bool
is_among text texts = list_any (λ t. bytes_eq t text) texts

-- the text has 1 to 256 characters
abbrev pub is_name : List ℕ → Bool
is_name text = nat_lt 0 (length text) && nat_le (length text) 256

-- no element is the same as one after it
abbrev pub all_distinct : {X : Type 0} → (X → X → Bool) → List X → Bool
all_distinct same [] = true
all_distinct same (x ∷ xs) = not (list_any (same x) xs) && all_distinct same xs
