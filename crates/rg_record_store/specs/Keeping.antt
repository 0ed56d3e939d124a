-- What the calls of a keeper do to its records, and what a crash leaves of them. One that tells no records goes on telling none.
use Rattle.std.specs.Prelude.{◌≡◌, ◌⊎◌, ◌≤◌, ℕ, List, [], ◌∷◌, ◌++◌, slice_get, Option, Some, None, option_map}
use Rattle.rg_base.specs.Listed.{Listed}

-- the record stands last
abbrev pub Gets : Option (List (List ℕ)) → List ℕ → Option (List (List ℕ)) → Type 0
Gets None entry new = new ≡ None
Gets (Some records) entry new = new ≡ Some (records ++ entry ∷ [])

-- it does, or the list is as it was
abbrev pub MayGet : Option (List (List ℕ)) → List ℕ → Option (List (List ℕ)) → Type 0
MayGet None entry new = new ≡ None
MayGet (Some records) entry new = (new ≡ Some records) ⊎ (new ≡ Some (records ++ entry ∷ []))

-- the record at the place, none past the list
abbrev pub IsAt : Option (List (List ℕ)) → ℕ → Option (Listed ℕ) → Type 0
IsAt None place found = Unit {0}
IsAt (Some records) place found = option_map (λ (bytes : Listed ℕ). bytes.items) found ≡ slice_get records place

-- ---- crashes

-- a crash leaves the records with the new one, or without it
abbrev pub WithOrWithout : Option (List (List ℕ)) → List ℕ → List (List ℕ) → Type 0
WithOrWithout None entry left = Unit {0}
WithOrWithout (Some records) entry left = (left ≡ records) ⊎ (left ≡ records ++ entry ∷ [])

-- a crash in the call leaves nothing that one before it wouldn't
abbrev pub Nothing : List (List ℕ) → Type 0
Nothing left = ⊥

-- Time goes on from one moment to another: a crash might have left what it might have left before, or what one in between leaves.
pub record Passes (before now : ℕ) (past since : ℕ → List (List ℕ) → Type 0) (between : List (List ℕ) → Type 0) : Type 0 where
  pub later : before ≤ now
  pub nothing_else : (t : ℕ) (left : List (List ℕ)) → t ≤ before → since t left → past t left ⊎ between left
  pub keeps : (t : ℕ) (left : List (List ℕ)) → t ≤ before → past t left → since t left
