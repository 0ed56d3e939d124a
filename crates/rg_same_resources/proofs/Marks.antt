-- Marks at places that there are.
use Rattle.std.proofs.Common.{◌≡◌, ◌≤◌, ℕ, zero, suc, List, [], ◌∷◌, length, slice_set, arith, refl, ap}

-- nothing is set behind the end
pub set_behind : {X : Type 0} (xs : List X) (place : ℕ) (x : X) → length xs ≤ place → xs ≡ slice_set xs place x
set_behind [] place x h = refl
set_behind (y ∷ xs) zero x h = absurd (omega (arith, h))
set_behind (y ∷ xs) (suc place) x h = ap (λ ys. y ∷ ys) (set_behind xs place x (omega (arith, h)))
