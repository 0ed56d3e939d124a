-- Zones in which a common resource lies.
use Rattle.std.specs.Prelude.{◌≡◌, ◌<◌, ◌⊎◌, ◌+◌, ◌-◌, ℕ, ◌&&◌, ◌||◌, not, Bool, false, List, [], ◌∷◌, ◌++◌, length, map, Option, Some, None, IsTrue, if◌then◌else◌}
use Rattle.std.specs.List.{filter, find, flat_map, list_all, list_any, range_with_len, slice_get}
use Rattle.std.specs.Str.{all_scalars, bytes_eq}
use Rattle.rg_base.specs.Listed.{Listed}
use Rattle.rg_base.specs.Texts.{is_among}
use Rattle.rg_defs.specs.declared.service_def.Level.{Level}
use Rattle.rg_defs.specs.declared.service_def.ServiceDef.{ServiceDef}
use Rattle.rg_defs.specs.Paths.{level_of}
use Rattle.rg_defs.specs.PathTests.{on_one_path}
use Rattle.rg_pattern.specs.declared.atoms.Atom.{Atom}
use Rattle.rg_pattern.specs.Atoms.{are_scalars, twin}
use Rattle.rg_pattern.specs.Reading.{atoms_of}
use Rattle.rg_pattern.specs.Tests.{overlaps}
use Rattle.rg_policy.specs.declared.request.Element.{Element}
use Rattle.rg_resmatch.specs.Tests.{star}
use Rattle.rg_zone_rules.specs.declared.row.ZoneLevel.{ZoneLevel}
use Rattle.rg_zone_rules.specs.declared.row.ZoneRow.{ZoneRow}
use Rattle.rg_zone_rules.specs.declared.row.ZoneService.{ZoneService}
use Rattle.rg_zone_rules.specs.Zones.{in_zone, is_recursive, maps_for}

-- the values of the resource are texts of Unicode scalar values
abbrev pub are_texts : List Element → Bool
are_texts elements = list_all (λ (e : Element). all_scalars e.value) elements

-- the values of the map, and of all maps of the zone, are such texts
abbrev pub map_texts : Listed ZoneLevel → Bool
map_texts m = list_all (λ (l : ZoneLevel). list_all all_scalars l.values.items) m.items

abbrev pub zone_texts : ZoneRow → Bool
zone_texts zone = list_all (λ (s : ZoneService). list_all map_texts s.resources.items) zone.services.items

-- some resource lies in both zones
pub record ZonesOverlap (service : List ℕ) (def : ServiceDef) (a b : ZoneRow) : Type 0 where
  pub elements : List Element
  pub texts : IsTrue (are_texts elements)
  pub first : IsTrue (in_zone service def elements a)
  pub second : IsTrue (in_zone service def elements b)

-- the zones at these two places overlap
abbrev pub OverlapAt : List ℕ → ServiceDef → List ZoneRow → ℕ → ℕ → Type 0
OverlapAt service def zones i j = (a : ZoneRow) × (b : ZoneRow) × (slice_get zones i ≡ Some a) × (slice_get zones j ≡ Some b) × ZonesOverlap service def a b

-- the pair of places comes before the other: its first place is smaller, or this is the same and its second place is smaller
abbrev pub IsBefore : ℕ × ℕ → ℕ × ℕ → Type 0
IsBefore p q = (p.0 < q.0) ⊎ ((p.0 ≡ q.0) × (p.1 < q.1))

-- the least pair of places, the first smaller, at which zones overlap; none where no two zones overlap
abbrev pub IsLeastOverlap : List ℕ → ServiceDef → List ZoneRow → Option (ℕ × ℕ) → Type 0
IsLeastOverlap service def zones None = (i j : ℕ) → i < j → OverlapAt service def zones i j → ⊥
IsLeastOverlap service def zones (Some p) = (p.0 < p.1) × OverlapAt service def zones p.0 p.1
    × ((i j : ℕ) → i < j → IsBefore (i, j) p → OverlapAt service def zones i j → ⊥)

-- what of a level's values decides the overlap
pub record LevelPatterns : Type 0 where
  pub name : List ℕ
  -- those of the values, and of what lies below them where the level is recursive
  pub patterns : List (List Atom)
  pub fold : Bool
  -- a resource need not name the level
  pub lists_star : Bool

-- the pattern, and its twin where the level is recursive
abbrev pub with_twin : Bool → List Atom → List (List Atom)
with_twin recursive p = if recursive then p ∷ twin p ∷ [] else p ∷ []

-- whether the level takes wildcards
abbrev pub wilds : Option Level → Bool
wilds None = false
wilds (Some l) = l.wild

-- whether the case of ASCII letters counts for nothing at the level
abbrev pub folds : Option Level → Bool
folds None = false
folds (Some l) = l.fold

abbrev pub value_patterns : Option Level → List ℕ → List (List Atom)
value_patterns o t = with_twin (is_recursive o) (atoms_of (wilds o) t)

abbrev pub level_patterns : ServiceDef → ZoneLevel → LevelPatterns
level_patterns def l = record {
  name = l.level;
  patterns = flat_map (value_patterns (level_of def l.level)) l.values.items;
  fold = folds (level_of def l.level);
  lists_star = is_among star l.values.items;
}

abbrev pub map_patterns : ServiceDef → Listed ZoneLevel → List LevelPatterns
map_patterns def m = map (level_patterns def) m.items

-- some text is stood for by one of the first patterns and by one of the others
abbrev pub patterns_overlap : Bool → List (List Atom) → List (List Atom) → Bool
patterns_overlap fold ps qs = list_any (λ p. list_any (overlaps fold p) qs) ps

-- where the two are one level, a resource need not name it, or can have a value there that both list
abbrev pub levels_meet : LevelPatterns → LevelPatterns → Bool
levels_meet a b = not (bytes_eq a.name b.name) || ((a.lists_star && b.lists_star) || patterns_overlap a.fold a.patterns b.patterns)

abbrev pub all_meet : List LevelPatterns → List LevelPatterns → Bool
all_meet ms ns = list_all (λ a. list_all (levels_meet a) ns) ms

abbrev pub level_names : List LevelPatterns → List (List ℕ)
level_names ms = map (λ (a : LevelPatterns). a.name) ms

-- the levels that every resource in the map names
abbrev pub needed_names : List LevelPatterns → List (List ℕ)
needed_names ms = level_names (filter (λ (a : LevelPatterns). not a.lists_star) ms)

abbrev pub needs_none : List LevelPatterns → Bool
needs_none ms = list_all (λ (a : LevelPatterns). a.lists_star) ms

-- the levels of the map and these lie on one path
abbrev pub reaches : List Level → List LevelPatterns → List (List ℕ) → Bool
reaches levels ms names = on_one_path levels (level_names ms ++ names)

-- a resource that names what both maps need, or any one level where they need none, can lie on a path with the levels of each
abbrev pub share_levels : List Level → List LevelPatterns → List LevelPatterns → Bool
share_levels levels ms ns = if needs_none ms && needs_none ns
    then list_any (λ (l : Level). reaches levels ms (l.name ∷ []) && reaches levels ns (l.name ∷ [])) levels
    else reaches levels ms (needed_names ns) && reaches levels ns (needed_names ms)

abbrev pub patterns_meet : List Level → List LevelPatterns → List LevelPatterns → Bool
patterns_meet levels ms ns = share_levels levels ms ns && all_meet ms ns

-- some resource lies on both maps
abbrev pub maps_overlap : ServiceDef → Listed ZoneLevel → Listed ZoneLevel → Bool
maps_overlap def m n = patterns_meet def.levels.items (map_patterns def m) (map_patterns def n)

-- what of the zone decides the overlap
abbrev pub zone_patterns : List ℕ → ServiceDef → ZoneRow → List (List LevelPatterns)
zone_patterns service def zone = map (map_patterns def) (maps_for service zone)

abbrev pub some_meet : List Level → List (List LevelPatterns) → List (List LevelPatterns) → Bool
some_meet levels ms ns = list_any (λ m. list_any (patterns_meet levels m) ns) ms

-- the characters of the patterns are Unicode scalar values
abbrev pub form_scalars : List LevelPatterns → Bool
form_scalars ms = list_all (λ (a : LevelPatterns). list_all are_scalars a.patterns) ms

abbrev pub zone_scalars : List (List LevelPatterns) → Bool
zone_scalars maps = list_all form_scalars maps

-- some map of the one zone overlaps some map of the other
abbrev pub zones_overlap : List ℕ → ServiceDef → ZoneRow → ZoneRow → Bool
zones_overlap service def a b = list_any (λ m. list_any (maps_overlap def m) (maps_for service b)) (maps_for service a)

-- the places after the first, each with it
abbrev pub pairs_from : ℕ → ℕ → List (ℕ × ℕ)
pairs_from n i = map (λ j. (i, j)) (range_with_len (i + 1) (n - (i + 1)))

-- the pairs of places below n, the first smaller, in order of the first and then the second
abbrev pub place_pairs : ℕ → List (ℕ × ℕ)
place_pairs n = flat_map (pairs_from n) (range_with_len 0 n)

abbrev pub holds_of : {X : Type 0} → (X → X → Bool) → Option X → Option X → Bool
holds_of f None o = false
holds_of f (Some x) None = false
holds_of f (Some x) (Some y) = f x y

abbrev pub at_pair : {X : Type 0} → (X → X → Bool) → List X → ℕ × ℕ → Bool
at_pair f xs pair = holds_of f (slice_get xs pair.0) (slice_get xs pair.1)

-- the least pair of places of zones that overlap
abbrev pub first_overlap : List ℕ → ServiceDef → List ZoneRow → Option (ℕ × ℕ)
first_overlap service def zones = find (at_pair (zones_overlap service def) zones) (place_pairs (length zones))
