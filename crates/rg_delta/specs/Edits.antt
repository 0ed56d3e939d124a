-- What a change makes of a list of things with ids.
use Rattle.std.specs.Prelude.{ℕ, Bool, ◌==◌, List, [], ◌∷◌, ◌++◌, if◌then◌else◌}
use Rattle.rg_cmd.specs.Kinds.{created, deleted, updated}
use Rattle.rg_cmd.specs.Lists.{put, without}

-- a thing that was created, updated or deleted
pub record Edit (X : Type 0) : Type 0 where
  pub change_type : ℕ
  pub item : X

-- a create appends, an update replaces every one that is the same in its place, or appends where there is none, and a
-- delete removes every one; a change of another type changes nothing
abbrev pub changed : {X : Type 0} → (X → Bool) → ℕ → X → List X → List X
changed same change_type x xs =
    if change_type == created then xs ++ x ∷ []
    else (if change_type == updated then put same x xs
    else (if change_type == deleted then without same xs else xs))
