-- The paths of a definition: chains of levels from a root to a leaf, by parents. A level is named by its place in the list.
use Rattle.std.specs.Prelude.{◌≡◌, ◌<◌, ℕ, List, [], ◌∷◌, length, Option, Some, None, option_and_then, position, reverse}
use Rattle.std.specs.List.{Contains, find, slice_get}
use Rattle.std.specs.Str.{bytes_eq}
use Rattle.rg_defs.specs.declared.service_def.Level.{Level}
use Rattle.rg_defs.specs.declared.service_def.ServiceDef.{ServiceDef}

-- the definition's level of this name
abbrev pub level_of : ServiceDef → List ℕ → Option Level
level_of def name = find (λ (l : Level). bytes_eq l.name name) def.levels.items

-- the place of the level of this name
abbrev pub place_of : List Level → List ℕ → Option ℕ
place_of levels name = position (λ (l : Level). bytes_eq l.name name) levels

-- the place of the parent of the level at this place; a root has none, since no level has an empty name
abbrev pub parent_of : List Level → ℕ → Option ℕ
parent_of levels place = option_and_then (λ (l : Level). place_of levels l.parent) (slice_get levels place)

-- these stand above the level, the nearest first: each is the parent of the one before it, and the last has none
abbrev pub IsAbove : List Level → ℕ → List ℕ → Type 0
IsAbove levels place [] = parent_of levels place ≡ None
IsAbove levels place (parent ∷ above) = (parent_of levels place ≡ Some parent) × IsAbove levels parent above

-- no level has this one as its parent
abbrev pub IsLeaf : List Level → ℕ → Type 0
IsLeaf levels place = (k : ℕ) → k < length levels → parent_of levels k ≡ Some place → ⊥

-- a path: from a root down to a leaf
pub record IsPath (levels : List Level) (path : List ℕ) : Type 0 where
  pub leaf : ℕ
  pub above : List ℕ
  pub there : leaf < length levels
  pub lowest : IsLeaf levels leaf
  pub chain : IsAbove levels leaf above
  pub listed : path ≡ reverse (leaf ∷ above)

-- the level of the one name is an ancestor of that of the other: it stands above it
pub record IsAncestor (levels : List Level) (upper lower : List ℕ) : Type 0 where
  pub place : ℕ
  pub above : List ℕ
  pub higher : ℕ
  pub level : Level
  pub there : place_of levels lower ≡ Some place
  pub chain : IsAbove levels place above
  pub among : Contains above higher
  pub at : slice_get levels higher ≡ Some level
  pub named : level.name ≡ upper
