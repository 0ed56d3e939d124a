-- The states of prefixes.
use Rattle.std.proofs.Common.{◌≡◌, ℕ, Bool, List, [], ◌∷◌, ◌++◌, refl}
use Rattle.rg_base.specs.Folding.{folded_char}
use Rattle.rg_tree.specs.Hashes.{state_after, step}

pub one_more : (fold : Bool) (state : ℕ) (seen : List ℕ) (c : ℕ) → state_after fold state (seen ++ c ∷ []) ≡ step (state_after fold state seen) (folded_char fold c)
one_more fold state [] c = refl
one_more fold state (x ∷ xs) c = one_more fold (step state (folded_char fold x)) xs c
