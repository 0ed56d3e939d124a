-- The pairs of places in order.
use Rattle.std.proofs.Common.{◌≡◌, ◌<◌, ◌≤◌, ◌+◌, ◌-◌, ℕ, zero, suc, Bool, List, [], ◌∷◌, length, map, Option, Some, None, slice_get, option_map, refl, ap, ◌∙◌, arith}
use Rattle.std.proofs.lemmas.List.{length-map}
use Rattle.std.proofs.lemmas.List.Sums.{fold-append}
use Rattle.std.specs.List.{find, flat_map, fold, list_any, range_with_len}
use Rattle.rg_base.specs.Listed.{Listed}
use Rattle.rg_defs.specs.declared.service_def.ServiceDef.{ServiceDef}
use Rattle.rg_zone_rules.specs.declared.row.ZoneLevel.{ZoneLevel}
use Rattle.rg_zone_rules.specs.declared.row.ZoneRow.{ZoneRow}
use Rattle.rg_zone_rules.specs.Zones.{maps_for}
use Rattle.rg_zone_rules.specs.Overlap.{at_pair, first_overlap, holds_of, map_patterns, maps_overlap, pairs_from, patterns_meet, place_pairs, some_meet, zone_patterns, zones_overlap}
use Rattle.rg_base.proofs.Lists.{find_agree, list_any-map, list_any_agree}

pub range_first : (a b : ℕ) → a < b → range_with_len a (b - a) ≡ a ∷ range_with_len (a + 1) (b - (a + 1))
range_first a b h = let e : b - a ≡ suc (b - (a + 1)) = omega arith in ap (range_with_len a) e

pub range_none : (a b : ℕ) → b ≤ a → range_with_len a (b - a) ≡ []
range_none a b h = let e : b - a ≡ 0 = omega arith in ap (range_with_len a) e

-- one pair, of elements that are there
pub pair_there : {X : Type 0} (f : X → X → Bool) (xs : List X) (i j : ℕ) (x y : X) → slice_get xs i ≡ Some x → slice_get xs j ≡ Some y → at_pair f xs (i, j) ≡ f x y
pair_there f xs i j x y e h = ap (λ o. holds_of f o (slice_get xs j)) e ∙ ap (holds_of f (Some x)) h

-- the pairs with one more first place
pub fold_pairs : {B : Type 0} (step : B → ℕ × ℕ → B) (best : B) (n i : ℕ) → i < n
    → fold step best (flat_map (pairs_from n) (range_with_len i (n - i))) ≡ fold step (fold step best (pairs_from n i)) (flat_map (pairs_from n) (range_with_len (i + 1) (n - (i + 1))))
fold_pairs step best n i h =
    ap (λ r. fold step best (flat_map (pairs_from n) r)) (range_first i n h)
    ∙ fold-append step best (pairs_from n i) (flat_map (pairs_from n) (range_with_len (i + 1) (n - (i + 1))))

pub get_mapped : {X Y : Type 0} (f : X → Y) (xs : List X) (i : ℕ) → slice_get (map f xs) i ≡ option_map f (slice_get xs i)
get_mapped f [] i = refl
get_mapped f (x ∷ xs) zero = refl
get_mapped f (x ∷ xs) (suc i) = get_mapped f xs i

-- what compiled maps say of two lists of maps
pub maps_meet_same : (def : ServiceDef) (ms ns : List (Listed ZoneLevel))
    → some_meet def.levels.items (map (map_patterns def) ms) (map (map_patterns def) ns) ≡ list_any (λ m. list_any (maps_overlap def m) ns) ms
maps_meet_same def ms ns =
    let levels = def.levels.items in
    list_any-map (λ m. list_any (patterns_meet levels m) (map (map_patterns def) ns)) (map_patterns def) ms
    ∙ list_any_agree (λ (m : Listed ZoneLevel). list_any (patterns_meet levels (map_patterns def m)) (map (map_patterns def) ns)) (λ (m : Listed ZoneLevel). list_any (maps_overlap def m) ns)
    (λ m. list_any-map (patterns_meet levels (map_patterns def m)) (map_patterns def) ns) ms

some_meet_same : (service : List ℕ) (def : ServiceDef) (a b : ZoneRow) → some_meet def.levels.items (zone_patterns service def a) (zone_patterns service def b) ≡ zones_overlap service def a b
some_meet_same service def a b = maps_meet_same def (maps_for service a) (maps_for service b)

pair_same : (service : List ℕ) (def : ServiceDef) (zones : List ZoneRow) (p : ℕ × ℕ)
    → at_pair (some_meet def.levels.items) (map (zone_patterns service def) zones) p ≡ at_pair (zones_overlap service def) zones p
pair_same service def zones p =
    ap (λ o. holds_of (some_meet def.levels.items) o (slice_get (map (zone_patterns service def) zones) p.1)) (get_mapped (zone_patterns service def) zones p.0)
    ∙ ap (λ o. holds_of (some_meet def.levels.items) (option_map (zone_patterns service def) (slice_get zones p.0)) o) (get_mapped (zone_patterns service def) zones p.1)
    ∙ at (slice_get zones p.0) (slice_get zones p.1) where
      at : (o q : Option ZoneRow) → holds_of (some_meet def.levels.items) (option_map (zone_patterns service def) o) (option_map (zone_patterns service def) q) ≡ holds_of (zones_overlap service def) o q
      at None q = refl
      at (Some a) None = refl
      at (Some a) (Some b) = some_meet_same service def a b

pub any_meet_same : (service : List ℕ) (def : ServiceDef) (a : ZoneRow) (zones : List ZoneRow)
    → list_any (λ (other : ZoneRow). some_meet def.levels.items (zone_patterns service def a) (zone_patterns service def other)) zones ≡ list_any (zones_overlap service def a) zones
any_meet_same service def a zones =
    list_any_agree (λ (other : ZoneRow). some_meet def.levels.items (zone_patterns service def a) (zone_patterns service def other)) (zones_overlap service def a) (some_meet_same service def a) zones

-- what is found among the compiled zones is what is found among the zones
pub same_pair : (service : List ℕ) (def : ServiceDef) (zones : List ZoneRow)
    → find (at_pair (some_meet def.levels.items) (map (zone_patterns service def) zones)) (place_pairs (length (map (zone_patterns service def) zones))) ≡ first_overlap service def zones
same_pair service def zones =
    ap (λ n. find (at_pair (some_meet def.levels.items) (map (zone_patterns service def) zones)) (place_pairs n)) (length-map zones (zone_patterns service def))
    ∙ find_agree (at_pair (some_meet def.levels.items) (map (zone_patterns service def) zones)) (at_pair (zones_overlap service def) zones) (pair_same service def zones) (place_pairs (length zones))
