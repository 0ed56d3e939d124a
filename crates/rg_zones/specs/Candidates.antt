-- For proofs alone: which pairs of zones are compared, and the least of them that passes.
use Rattle.std.specs.Prelude.{◌≡◌, ℕ, ◌&&◌, not, nat_eq, ◌<◌, pos, fold, Bool, true, false, List, [], map, Option, Some, None, option_map, if◌then◌else◌}
use Rattle.std.specs.List.{Contains, flat_map, list_all, list_any, slice_get}
use Rattle.std.specs.Str.{bytes_eq}
use Rattle.rg_defs.specs.declared.service_def.Level.{Level}
use Rattle.rg_pattern.specs.Atoms.{literal_prefix}
use Rattle.rg_trie.specs.declared.pair.Filed.{Filed}
use Rattle.rg_trie.specs.declared.pair.Pair.{Pair}
use Rattle.rg_trie.specs.Walked.{entries_under}
use Rattle.rg_zones.specs.Best.{better, ordered}
use Rattle.rg_zone_rules.specs.Overlap.{LevelPatterns, at_pair, some_meet}

-- the map names the level, and so does every resource in it
abbrev pub needs_level : List ℕ → List LevelPatterns → Bool
needs_level name ms = list_any (λ (a : LevelPatterns). bytes_eq a.name name && not a.lists_star) ms

-- each map of the zone does
abbrev pub all_need : List ℕ → List (List LevelPatterns) → Bool
all_need name maps = list_all (needs_level name) maps

-- the literal prefixes of the patterns of the level, where it has this name
abbrev pub level_keys : List ℕ → LevelPatterns → List (List ℕ)
level_keys name a = if bytes_eq a.name name then map (literal_prefix a.fold) a.patterns else []

abbrev pub map_keys : List ℕ → List LevelPatterns → List (List ℕ)
map_keys name ms = flat_map (level_keys name) ms

-- those of the zone at the level
abbrev pub zone_keys : List ℕ → List (List LevelPatterns) → List (List ℕ)
zone_keys name maps = flat_map (map_keys name) maps

-- a zone with where it is filed: at the level of this place, under these keys
pub record Filing : Type 0 where
  pub maps : List (List LevelPatterns)
  pub anchor : Option ℕ
  pub keys : List (List ℕ)

abbrev pub maps_of : List Filing → List (List (List LevelPatterns))
maps_of zones = map (λ (f : Filing). f.maps) zones

abbrev pub filings_meet : List Level → Filing → Filing → Bool
filings_meet levels f g = some_meet levels f.maps g.maps

-- the zones at these two places overlap
abbrev pub meet_at : List Level → List Filing → ℕ × ℕ → Bool
meet_at levels zones p = at_pair (filings_meet levels) zones p

abbrev pub name_at : List Level → ℕ → Option (List ℕ)
name_at levels place = option_map (λ (l : Level). l.name) (slice_get levels place)

-- the zone is filed at a level that all its maps need, or nowhere
abbrev pub IsFiledAt : List Level → List (List LevelPatterns) → List (List ℕ) → Option ℕ → Type 0
IsFiledAt levels zone keys None = Unit {0}
IsFiledAt levels zone keys (Some place) = (name : List ℕ) × (name_at levels place ≡ Some name) × (all_need name zone ≡ true) × (keys ≡ zone_keys name zone)

abbrev pub IsFiled : List Level → Filing → Type 0
IsFiled levels f = IsFiledAt levels f.maps f.keys f.anchor

-- each zone is
abbrev pub AreFiled : List Level → List Filing → Type 0
AreFiled levels zones = (place : ℕ) (f : Filing) → slice_get zones place ≡ Some f → IsFiled levels f

-- both are filed at one level
abbrev pub same_place : Option ℕ → Option ℕ → Bool
same_place None o = false
same_place (Some a) None = false
same_place (Some a) (Some b) = nat_eq a b

abbrev pub same_anchor : Filing → Filing → Bool
same_anchor f g = same_place f.anchor g.anchor

-- a pair of zones that aren't filed at one level is compared
abbrev pub across : (ℕ × ℕ → Bool) → List Filing → Option (ℕ × ℕ) → ℕ × ℕ → Option (ℕ × ℕ)
across test filed best p = if at_pair same_anchor filed p then best else better test best p

-- the zone i is compared with one that is found, unless this is the zone itself
abbrev pub beside : (ℕ × ℕ → Bool) → ℕ → Option (ℕ × ℕ) → Filed → Option (ℕ × ℕ)
beside test i best e = if nat_eq i e.place then best else better test best (ordered i e.place)

-- what is filed under a key that begins one of these
abbrev pub found_under : List Pair → List (List ℕ) → List Filed
found_under trie keys = flat_map (λ key. entries_under key trie) keys

abbrev pub filing_keys : Option Filing → List (List ℕ)
filing_keys None = []
filing_keys (Some f) = f.keys

abbrev pub keys_at : List Filing → ℕ → List (List ℕ)
keys_at zones i = filing_keys (slice_get zones i)

-- the zone at the place is compared with each that is found under its keys
abbrev pub beside_all : (ℕ × ℕ → Bool) → List Pair → List Filing → Option (ℕ × ℕ) → ℕ → Option (ℕ × ℕ)
beside_all test trie zones best i = fold (beside test i) best (found_under trie (keys_at zones i))

-- the pair, filed under a key of the zone
abbrev pub filed_as : List ℕ → ℕ → Pair
filed_as key place = record { key = key; entry = record { id = pos 0; place = place } }

-- the first n zones are filed under all their keys
abbrev pub HoldsFirst : List Pair → List Filing → ℕ → Type 0
HoldsFirst trie zones n = (place : ℕ) (f : Filing) (key : List ℕ) → place < n → slice_get zones place ≡ Some f → Contains f.keys key → Contains trie (filed_as key place)
