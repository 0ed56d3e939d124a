-- What a line does to a sink, alone and in a fan.
use Rattle.std.specs.Prelude.{◌≡◌, ◌<◌, ◌+◌, ◌⊎◌, ℕ, List, [], ◌∷◌, ◌++◌, Option, Some, None}

-- the line stands behind the lines that were held; a sink that tells none goes on telling none
abbrev pub Added : Option (List (List ℕ)) → Option (List (List ℕ)) → List ℕ → Type 0
Added None heard line = heard ≡ None
Added (Some lines) heard line = heard ≡ Some (lines ++ line ∷ [])

-- the number of failures at which a fan drops a sink
abbrev pub drop_at : ℕ
drop_at = 3

-- a sink of a fan and its number of failures, before and after a line was given to the fan. A sink that isn't dropped takes the line
-- and keeps its number; or it fails, which its own count of faults shows, holds what it held, and has one failure more. A dropped
-- sink is given nothing. `heard` and `faults` are what a sink tells
pub record AfterLine {S : Type 0} (heard : S → Option (List (List ℕ))) (faults : S → ℕ) (line : List ℕ) (old new : S × ℕ) : Type 0 where
  pub given : old.1 < drop_at → (Added (heard old.0) (heard new.0) line × (faults new.0 ≡ faults old.0) × (new.1 ≡ old.1))
      ⊎ ((heard new.0 ≡ heard old.0) × (faults old.0 < faults new.0) × (new.1 ≡ old.1 + 1))
  pub dropped : old.1 ≡ drop_at → new ≡ old
