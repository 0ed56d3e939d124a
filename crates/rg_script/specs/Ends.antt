-- The ends of lines and of words.
use Rattle.std.specs.Prelude.{ℕ, ◌+◌, ◌==◌, ◌&&◌, Bool, true, false, List, [], ◌∷◌, if◌then◌else◌}

-- how many bytes come before the first of this kind, of which there may be none
abbrev pub len_before : ℕ → List ℕ → ℕ
len_before stop [] = 0
len_before stop (b ∷ bs) = if b == stop then 0 else len_before stop bs + 1

-- there are no bytes
abbrev pub is_empty : List ℕ → Bool
is_empty [] = true
is_empty (b ∷ bs) = false

-- the bytes without a CR at their end
abbrev pub without_return : List ℕ → List ℕ
without_return [] = []
without_return (b ∷ bs) = if b == 13 && is_empty bs then [] else b ∷ without_return bs
