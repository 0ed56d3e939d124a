-- Patterns filed at their places, under the characters that they begin with: for the proofs of this crate alone.
use Rattle.std.specs.Prelude.{◌≡◌, ◌<◌, ℕ, pos, Bool, false, List, Some, slice_get}
use Rattle.std.specs.List.{Contains}
use Rattle.std.specs.Option.{option_map_or}
use Rattle.rg_pattern.specs.declared.atoms.Atom.{Atom}
use Rattle.rg_pattern.specs.Atoms.{literal_prefix}
use Rattle.rg_pattern.specs.Tests.{covers}
use Rattle.rg_trie.specs.declared.pair.Filed.{Filed}
use Rattle.rg_trie.specs.declared.pair.Pair.{Pair}

-- the pattern at this place, as it is filed
abbrev pub filed_at : Bool → List Atom → ℕ → Pair
filed_at fold p place = record { key = literal_prefix fold p; entry = record { id = pos 0; place = place } }

-- the first n patterns are filed
abbrev pub HoldsFirst : Bool → List (List Atom) → List Pair → ℕ → Type 0
HoldsFirst fold patterns trie n = (place : ℕ) (p : List Atom) → place < n → slice_get patterns place ≡ Some p → Contains trie (filed_at fold p place)

-- the pattern that is filed so covers p
abbrev pub covers_at : Bool → List (List Atom) → List Atom → Filed → Bool
covers_at fold patterns p e = option_map_or (λ q. covers fold q p) (slice_get patterns e.place) false
