-- The line that bytes end with.
use Rattle.std.proofs.Common.{◌≡◌, ◌==◌, ℕ, Bool, true, false, cond, List, [], ◌∷◌, ◌++◌, length, arith, Some, None, refl, ap, ◌∙◌}
use Rattle.rg_cache.specs.Kept.{behind, line_of}

behind_test : (b : ℕ) (xs : List ℕ) (is_end : Bool) → behind b (cond is_end (Some xs) None) ≡ cond is_end (Some (b ∷ xs)) None
behind_test b xs true = refl
behind_test b xs false = refl

-- the last byte says whether the bytes end with a line
pub line_of_last : (xs : List ℕ) (b : ℕ) → line_of (xs ++ b ∷ []) ≡ cond (b == 10) (Some xs) None
line_of_last [] b = refl
line_of_last (x ∷ []) b = behind_test x [] (b == 10)
line_of_last (x ∷ y ∷ xs) b = ap (behind x) (line_of_last (y ∷ xs) b) ∙ behind_test x (y ∷ xs) (b == 10)

-- an LF behind bytes ends them
pub line_ends : (xs : List ℕ) → line_of (xs ++ 10 ∷ []) ≡ Some xs
line_ends xs = line_of_last xs 10

pub no_line : (xs : List ℕ) (b : ℕ) → (b == 10) ≡ false → line_of (xs ++ b ∷ []) ≡ None
no_line xs b other = line_of_last xs b ∙ ap (λ t. cond t (Some xs) None) other

pub no_bytes : (bytes : List ℕ) → length bytes ≡ 0 → line_of bytes ≡ None
no_bytes [] none = refl
no_bytes (b ∷ bytes) none = absurd (omega (arith, none))

pub ruleset lines = (line_ends, no_line, no_bytes)
