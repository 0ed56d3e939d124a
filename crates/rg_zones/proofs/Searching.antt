-- The pair that is left when all have been compared is the least one.
use Rattle.std.proofs.Common.{◌≡◌, ◌⊎◌, ◌<◌, ◌≤◌, ◌+◌, ◌-◌, ◌&&◌, ◌||◌, ◌++◌, ℕ, zero, suc, Bool, true, false, not, cond, nat_eq, nat_lt, List, [], ◌∷◌, length, map, take, Option, Some, None, Contains, get_or, slice_get, option_map, refl, sym, ap, subst, ◌∙◌, inl, inr, arith}
use Rattle.std.proofs.lemmas.Bool.{and_parts, false≢true, not-true}
use Rattle.std.proofs.lemmas.List.{map-append}
use Rattle.std.proofs.lemmas.List.Elements.{Contains-append_cases}
use Rattle.std.proofs.lemmas.Option.{none-some, same_Some, slice_get_within}
use Rattle.std.proofs.lemmas.Slice.Eq.{bytes_eq-Decides}
use Rattle.std.specs.List.{filter, find, flat_map, fold, list_all, list_any, range_with_len, starts_with}
use Rattle.std.specs.Str.{bytes_eq}
use Rattle.rg_base.proofs.Lists.{Contains-cases, Contains-filter, Contains-first, Contains-flat_map, Contains-flat_mapped, Contains-later, Contains-map, Contains-mapped, Contains-none, Contains-slice_get, all_holds, any_holds, find_agree, take_next}
use Rattle.rg_defs.specs.declared.service_def.Level.{Level}
use Rattle.rg_defs.specs.declared.service_def.ServiceDef.{ServiceDef}
use Rattle.rg_defs.specs.Paths.{level_of}
use Rattle.rg_pattern.specs.declared.atoms.Atom.{Atom}
use Rattle.rg_pattern.specs.Atoms.{literal_prefix}
use Rattle.rg_pattern.specs.Tests.{overlaps}
use Rattle.rg_trie.specs.declared.pair.Filed.{Filed}
use Rattle.rg_trie.specs.declared.pair.Pair.{Pair}
use Rattle.rg_trie.specs.Walked.{entries_under, is_under}
use Rattle.rg_zone_rules.specs.declared.row.ZoneRow.{ZoneRow}
use Rattle.rg_zones.specs.Best.{better, ordered}
use Rattle.rg_zones.specs.Candidates.{AreFiled, Filing, HoldsFirst, IsFiled, IsFiledAt, across, all_need, beside, beside_all, filed_as, filing_keys, filings_meet, found_under, keys_at, level_keys, map_keys, maps_of, meet_at, name_at, needs_level, same_anchor, same_place, zone_keys}
use Rattle.rg_zone_rules.specs.Overlap.{IsBefore, LevelPatterns, all_meet, at_pair, first_overlap, folds, holds_of, level_patterns, levels_meet, map_patterns, pairs_from, patterns_meet, patterns_overlap, place_pairs, share_levels, some_meet, zone_patterns}
use Rattle.rg_zone_rules.specs.Zones.{maps_for}
use Rattle.rg_zones.proofs.Best.{Covers, IsGood, IsStep, covers_on, covers_this, fold_covers, fold_good, fold_reaches, good_on}
use Rattle.rg_zones.proofs.Keys.{Related, overlap_related}
use Rattle.rg_zones.proofs.Least.{First, first_of, there_both}
use Rattle.rg_zones.proofs.Members.{bool_cases}
use Rattle.rg_zones.proofs.Pairs.{get_mapped, pair_there, same_pair}

-- ---- numbers and pairs

nat_cases : (m n : ℕ) → (m < n) ⊎ ((m ≡ n) ⊎ (n < m))
nat_cases zero zero = inr (inl refl)
nat_cases zero (suc n) = inl (omega arith)
nat_cases (suc m) zero = inr (inr (omega arith))
nat_cases (suc m) (suc n) = elim (nat_cases m n) [
  | inl low ↦ inl (omega arith)
  | inr on ↦ elim on [ inl same ↦ inr (inl (ap suc same)) | inr high ↦ inr (inr (omega arith)) ]
]

pair_same : (p q : ℕ × ℕ) → p.0 ≡ q.0 → p.1 ≡ q.1 → p ≡ q
pair_same p q e h = λ i. (e i, h i)

pair_cases : (p q : ℕ × ℕ) → IsBefore p q ⊎ ((p ≡ q) ⊎ IsBefore q p)
pair_cases p q = elim (nat_cases p.0 q.0) [
  | inl low ↦ inl (inl low)
  | inr on ↦ elim on [
    | inl same ↦ elim (nat_cases p.1 q.1) [
      | inl low ↦ inl (inr (same, low))
      | inr more ↦ elim more [ inl alike ↦ inr (inl (pair_same p q same alike)) | inr high ↦ inr (inr (inr (sym same, high))) ]
    ]
    | inr high ↦ inr (inr (inl high))
  ]
]

range_has : (k a x : ℕ) → a ≤ x → x < a + k → Contains (range_with_len a k) x
range_has zero a x low high = absurd (omega arith)
range_has (suc k) a x low high = elim (nat_cases a x) [
  | inl more ↦ Contains-later a (range_with_len (a + 1) k) x (range_has k (a + 1) x (omega arith) (omega arith))
  | inr on ↦ elim on [
    | inl same ↦ subst (λ y. Contains (a ∷ range_with_len (a + 1) k) y) same (Contains-first a (range_with_len (a + 1) k))
    | inr less ↦ absurd (omega arith)
  ]
]

range_from : (k a x : ℕ) → Contains (range_with_len a k) x → a ≤ x
range_from zero a x h = absurd (Contains-none x h)
range_from (suc k) a x h = elim (Contains-cases a (range_with_len (a + 1) k) x h) [
  | inl same ↦ omega arith
  | inr on ↦ let later = range_from k (a + 1) x on in omega arith
]

-- the pairs are those of two places, the lesser first
pair_listed : (n i j : ℕ) → i < j → j < n → Contains (place_pairs n) (i, j)
pair_listed n i j less within =
    Contains-flat_map (pairs_from n) (range_with_len 0 n) i (i, j) (range_has n 0 i (omega arith) (omega arith))
    (Contains-map (λ j. (i, j)) (range_with_len (i + 1) (n - (i + 1))) j (range_has (n - (i + 1)) (i + 1) j (omega arith) (omega arith)))

pair_rises : (n : ℕ) (p : ℕ × ℕ) → Contains (place_pairs n) p → p.0 < p.1
pair_rises n p h =
    let row = Contains-flat_mapped (pairs_from n) (range_with_len 0 n) p h in
    let place = Contains-mapped (λ (j : ℕ). (row.0, j)) (range_with_len (row.0 + 1) (n - (row.0 + 1))) p row.2 in
    let low = range_from (n - (row.0 + 1)) (row.0 + 1) place.0 place.1 in
    let less : row.0 < place.0 = omega arith in
    subst (λ (p : ℕ × ℕ). p.0 < p.1) place.2 less

less_from : (i j : ℕ) → nat_lt i j ≡ true → i < j
less_from i j e = grind arith

more_from : (i j : ℕ) → nat_lt i j ≡ false → nat_eq i j ≡ false → j < i
more_from i j e h = grind arith

ordered_rises : (i j : ℕ) → nat_eq i j ≡ false → let p : ℕ × ℕ = ordered i j in p.0 < p.1
ordered_rises i j h = at (nat_lt i j) refl where
  at : (b : Bool) → nat_lt i j ≡ b → let p : ℕ × ℕ = cond b (i, j) (j, i) in p.0 < p.1
  at true e = less_from i j e
  at false e = more_from i j e h

ordered_up : (i j : ℕ) → i < j → ordered i j ≡ (i, j)
ordered_up i j h = let e : nat_lt i j ≡ true = grind arith in ap (λ b. cond b (i, j) (j, i)) e

ordered_down : (i j : ℕ) → i < j → ordered j i ≡ (i, j)
ordered_down i j h = let e : nat_lt j i ≡ false = grind arith in ap (λ b. cond b (j, i) (i, j)) e

apart_places : (i j : ℕ) → i < j → nat_eq i j ≡ false
apart_places i j h = grind arith

apart_places-down : (i j : ℕ) → i < j → nat_eq j i ≡ false
apart_places-down i j h = grind arith

slice_get_there : {X : Type 0} (xs : List X) (i : ℕ) (d : X) → i < length xs → slice_get xs i ≡ Some (get_or xs i d)
slice_get_there [] i d within = absurd (omega arith)
slice_get_there (x ∷ xs) zero d within = refl
slice_get_there (x ∷ xs) (suc i) d within = slice_get_there xs i d (omega arith)

pub here_or_before : (m n : ℕ) → m < n + 1 → (m < n) ⊎ (m ≡ n)
here_or_before m n h = elim (nat_cases m n) [
  | inl low ↦ inl low
  | inr on ↦ elim on [ inl same ↦ inr same | inr high ↦ absurd (omega arith) ]
]

pub item_there : {X : Type 0} (xs : List X) (i : ℕ) (x y : X) → i < length xs → y ≡ get_or xs i y → slice_get xs i ≡ Some x → y ≡ x
item_there xs i x y within is there = is ∙ same_Some (get_or xs i y) x (sym (slice_get_there xs i y within) ∙ there)

-- ---- the steps

step_across : (levels : List Level) (zones : List Filing) (n : ℕ) → IsStep (meet_at levels zones) (across (meet_at levels zones) zones) (place_pairs n)
step_across levels zones n = record {
  good = λ best p w good. keeps best p (at_pair same_anchor zones p) (IsGood test) good (good_on test best p (pair_rises n p w) good);
  covers = λ best p q h. keeps best p (at_pair same_anchor zones p) (λ b. Covers test b q) h (covers_on test best p q h);
} where
  test : ℕ × ℕ → Bool
  test = meet_at levels zones

  keeps : (best : Option (ℕ × ℕ)) (p : ℕ × ℕ) (b : Bool) (P : Option (ℕ × ℕ) → Type 0) → P best → P (better test best p) → P (cond b best (better test best p))
  keeps best p true P x y = x
  keeps best p false P x y = y

step_beside : (test : ℕ × ℕ → Bool) (i : ℕ) (es : List Filed) → IsStep test (beside test i) es
step_beside test i es = record {
  good = λ best e w good. good_at best e (nat_eq i e.place) refl good;
  covers = λ best e q h. covers_at best e q (nat_eq i e.place) h;
} where
  good_at : (best : Option (ℕ × ℕ)) (e : Filed) (b : Bool) → nat_eq i e.place ≡ b → IsGood test best → IsGood test (cond b best (better test best (ordered i e.place)))
  good_at best e true h good = good
  good_at best e false h good = good_on test best (ordered i e.place) (ordered_rises i e.place h) good

  covers_at : (best : Option (ℕ × ℕ)) (e : Filed) (q : ℕ × ℕ) (b : Bool) → Covers test best q → Covers test (cond b best (better test best (ordered i e.place))) q
  covers_at best e q true h = h
  covers_at best e q false h = covers_on test best (ordered i e.place) q h

step_all : (test : ℕ × ℕ → Bool) (trie : List Pair) (zones : List Filing) (places : List ℕ) → IsStep test (beside_all test trie zones) places
step_all test trie zones places = record {
  good = λ best i w good. fold_good test (beside test i) (found_under trie (keys_at zones i)) (step_beside test i (found_under trie (keys_at zones i))) best good;
  covers = λ best i q h. fold_covers test (beside test i) (found_under trie (keys_at zones i)) (step_beside test i (found_under trie (keys_at zones i))) best q h;
}

-- a pair of zones that aren't filed at one level is reached
across_reaches : (test : ℕ × ℕ → Bool) (zones : List Filing) (p : ℕ × ℕ) → at_pair same_anchor zones p ≡ false → (best : Option (ℕ × ℕ)) → Covers test (across test zones best p) p
across_reaches test zones p h best = subst (λ b. Covers test (cond b best (better test best p)) p) (sym h) (covers_this test best p)

beside_reaches : (test : ℕ × ℕ → Bool) (i : ℕ) (e : Filed) → nat_eq i e.place ≡ false → (best : Option (ℕ × ℕ)) → Covers test (beside test i best e) (ordered i e.place)
beside_reaches test i e h best = subst (λ b. Covers test (cond b best (better test best (ordered i e.place))) (ordered i e.place)) (sym h) (covers_this test best (ordered i e.place))

-- and one of zones of which one is found under the keys of the other
all_reaches : (test : ℕ × ℕ → Bool) (trie : List Pair) (zones : List Filing) (i : ℕ) (e : Filed) → Contains (found_under trie (keys_at zones i)) e → nat_eq i e.place ≡ false
    → (best : Option (ℕ × ℕ)) → Covers test (beside_all test trie zones best i) (ordered i e.place)
all_reaches test trie zones i e w h best =
    fold_reaches test (beside test i) (found_under trie (keys_at zones i)) (step_beside test i (found_under trie (keys_at zones i))) e (ordered i e.place) w (beside_reaches test i e h) best

-- ---- zones that are filed at one level

-- a level that a map needs
needed_at : (name : List ℕ) (ms : List LevelPatterns) → needs_level name ms ≡ true → (a : LevelPatterns) × Contains ms a × (a.name ≡ name) × (bytes_eq a.name name ≡ true) × (a.lists_star ≡ false)
needed_at name ms h =
    let a = any_holds (λ (a : LevelPatterns). bytes_eq a.name name && not a.lists_star) ms h in
    let parts = and_parts (bytes_eq a.0.name name) (not a.0.lists_star) a.2 in
    (a.0, a.1, (bytes_eq-Decides a.0.name name).0 parts.0, parts.0, not-true a.0.lists_star parts.1)

-- the patterns of levels of one name that meet, of which the one is needed, overlap
patterns_at : (a b : LevelPatterns) → a.name ≡ b.name → a.lists_star ≡ false → levels_meet a b ≡ true → patterns_overlap a.fold a.patterns b.patterns ≡ true
patterns_at a b same needed h = at (bytes_eq a.name b.name) ((bytes_eq-Decides a.name b.name).1 same) a.lists_star needed h where
  at : (n : Bool) → n ≡ true → (s : Bool) → s ≡ false → (not n || ((s && b.lists_star) || patterns_overlap a.fold a.patterns b.patterns)) ≡ true → patterns_overlap a.fold a.patterns b.patterns ≡ true
  at true e false f k = k
  at true e true f k = absurd (false≢true (sym f))
  at false e s f k = absurd (false≢true e)

key_there : (name : List ℕ) (maps : List (List LevelPatterns)) (ms : List LevelPatterns) (a : LevelPatterns) (p : List Atom) → Contains maps ms → Contains ms a → bytes_eq a.name name ≡ true → Contains a.patterns p
    → Contains (zone_keys name maps) (literal_prefix a.fold p)
key_there name maps ms a p m w e h =
    Contains-flat_map (map_keys name) maps ms (literal_prefix a.fold p) m
    (Contains-flat_map (level_keys name) ms a (literal_prefix a.fold p) w
    (subst (λ b. Contains (cond b (map (literal_prefix a.fold) a.patterns) []) (literal_prefix a.fold p)) (sym e) (Contains-map (literal_prefix a.fold) a.patterns p h)))

abbrev pub FoldsAlike : ServiceDef → List (List LevelPatterns) → Type 0
FoldsAlike def maps = (ms : List LevelPatterns) (a : LevelPatterns) → Contains maps ms → Contains ms a → a.fold ≡ folds (level_of def a.name)

-- zones that need one level and overlap have related keys there
keys_related : (def : ServiceDef) (levels : List Level) (name : List ℕ) (one other : List (List LevelPatterns)) → FoldsAlike def one → FoldsAlike def other → all_need name one ≡ true → all_need name other ≡ true
    → some_meet levels one other ≡ true → (k l : List ℕ) × Contains (zone_keys name one) k × Contains (zone_keys name other) l × Related k l
keys_related def levels name one other f g need needed h =
    let m = any_holds (λ m. list_any (patterns_meet levels m) other) one h in
    let n = any_holds (patterns_meet levels m.0) other m.2 in
    let meet = (and_parts (share_levels levels m.0 n.0) (all_meet m.0 n.0) n.2).1 in
    let a = needed_at name m.0 (all_holds (needs_level name) one need m.0 m.1) in
    let b = needed_at name n.0 (all_holds (needs_level name) other needed n.0 n.1) in
    let same = a.2 ∙ sym b.2 in
    let alike : a.0.fold ≡ b.0.fold = f m.0 a.0 m.1 a.1 ∙ ap (λ (x : List ℕ). folds (level_of def x)) same ∙ sym (g n.0 b.0 n.1 b.1) in
    let met = all_holds (levels_meet a.0) n.0 (all_holds (λ a. list_all (levels_meet a) n.0) m.0 meet a.0 a.1) b.0 b.1 in
    let p = any_holds (λ p. list_any (overlaps a.0.fold p) b.0.patterns) a.0.patterns (patterns_at a.0 b.0 same a.4 met) in
    let q = any_holds (overlaps a.0.fold p.0) b.0.patterns p.2 in (
      literal_prefix a.0.fold p.0,
      literal_prefix b.0.fold q.0,
      key_there name one m.0 a.0 p.0 m.1 a.1 a.3 p.1,
      key_there name other n.0 b.0 q.0 n.1 b.1 b.3 q.1,
      subst (λ (fold : Bool). Related (literal_prefix a.0.fold p.0) (literal_prefix fold q.0)) alike (overlap_related a.0.fold p.0 q.0 q.2),
    )

-- ---- what is filed is found

found_here : (trie : List Pair) (zones : List Filing) (i j : ℕ) (f g : Filing) (k l : List ℕ) → slice_get zones i ≡ Some f → slice_get zones j ≡ Some g → j < length zones → HoldsFirst trie zones (length zones)
    → Contains f.keys k → Contains g.keys l → starts_with nat_eq k l ≡ true → Contains (found_under trie (keys_at zones i)) (record { id = (filed_as l j).entry.id; place = j })
found_here trie zones i j f g k l e h within holds w u begins =
    let entry = (filed_as l j).entry in
    let under = Contains-filter (is_under k) trie (filed_as l j) (holds j g l within h u) begins in
    let found = Contains-map (λ (p : Pair). p.entry) (filter (is_under k) trie) (filed_as l j) under in
    subst (λ (o : Option Filing). Contains (found_under trie (filing_keys o)) entry) (sym e) (Contains-flat_map (λ key. entries_under key trie) f.keys k entry w found)

places_same : (a b : ℕ) → nat_eq a b ≡ true → a ≡ b
places_same a b h = grind arith

-- zones that are filed at one level, and overlap, are compared
filed_alike : (def : ServiceDef) (levels : List Level) (f g : Filing) → IsFiled levels f → IsFiled levels g → FoldsAlike def f.maps → FoldsAlike def g.maps → same_anchor f g ≡ true → some_meet levels f.maps g.maps ≡ true
    → (k l : List ℕ) × Contains f.keys k × Contains g.keys l × Related k l
filed_alike def levels f g p q folds_f folds_g same meet = at f.anchor g.anchor p q same where
  at : (a b : Option ℕ) → IsFiledAt levels f.maps f.keys a → IsFiledAt levels g.maps g.keys b → same_place a b ≡ true → (k l : List ℕ) × Contains f.keys k × Contains g.keys l × Related k l
  at None b x y e = absurd (false≢true e)
  at (Some a) None x y e = absurd (false≢true e)
  at (Some a) (Some b) x y e =
      let place : a ≡ b = places_same a b e in
      let name : y.0 ≡ x.0 = same_Some y.0 x.0 (sym y.1 ∙ ap (name_at levels) (sym place) ∙ x.1) in
      let r = keys_related def levels x.0 f.maps g.maps folds_f folds_g x.2 (ap (λ (n : List ℕ). all_need n g.maps) (sym name) ∙ y.2) meet in
      (r.0, r.1, subst (λ (ks : List (List ℕ)). Contains ks r.0) (sym x.3) r.2, subst (λ (ks : List (List ℕ)). Contains ks r.1) (ap (λ (n : List ℕ). zone_keys n g.maps) (sym name) ∙ sym y.3) r.3, r.4)

abbrev pub found_pair : List Level → List Pair → List Filing → Option (ℕ × ℕ)
found_pair levels trie zones = fold (beside_all (meet_at levels zones) trie zones) (fold (across (meet_at levels zones) zones) None (place_pairs (length zones))) (range_with_len 0 (length zones))

no_pair_is_good : (test : ℕ × ℕ → Bool) → IsGood test None
no_pair_is_good test = λ b e. absurd (none-some b e)

found_is_good : (levels : List Level) (trie : List Pair) (zones : List Filing) → IsGood (meet_at levels zones) (found_pair levels trie zones)
found_is_good levels trie zones =
    let test = meet_at levels zones in
    let n = length zones in
    fold_good test (beside_all test trie zones) (range_with_len 0 n) (step_all test trie zones (range_with_len 0 n)) _
    (fold_good test (across test zones) (place_pairs n) (step_across levels zones n) None (no_pair_is_good test))

-- each pair of zones that overlap is covered
found_covers : (def : ServiceDef) (levels : List Level) (trie : List Pair) (zones : List Filing) → AreFiled levels zones → HoldsFirst trie zones (length zones)
    → ((i : ℕ) (f : Filing) → slice_get zones i ≡ Some f → FoldsAlike def f.maps) → (i j : ℕ) → i < j → Covers (meet_at levels zones) (found_pair levels trie zones) (i, j)
found_covers def levels trie zones filed holds alike i j less = λ passes.
    let test = meet_at levels zones in
    let n = length zones in
    let there = there_both (filings_meet levels) (slice_get zones i) (slice_get zones j) passes in
    let within_i = slice_get_within zones i there.0 there.2 in
    let within = slice_get_within zones j there.1 there.3 in
    let first = fold (across test zones) None (place_pairs n) in
    elim (bool_cases (at_pair same_anchor zones (i, j))) [
      | inr apart ↦
          fold_covers test (beside_all test trie zones) (range_with_len 0 n) (step_all test trie zones (range_with_len 0 n)) first (i, j)
          (fold_reaches test (across test zones) (place_pairs n) (step_across levels zones n) (i, j) (i, j) (pair_listed n i j less within) (across_reaches test zones (i, j) apart) None) passes
      | inl same ↦
          let anchors = sym (pair_there same_anchor zones i j there.0 there.1 there.2 there.3) ∙ same in
          let r = filed_alike def levels there.0 there.1 (filed i there.0 there.2) (filed j there.1 there.3) (alike i there.0 there.2) (alike j there.1 there.3) anchors there.4 in
          let all = step_all test trie zones (range_with_len 0 n) in
          elim r.4 [
            | inl begins ↦
                let e = found_here trie zones i j there.0 there.1 r.0 r.1 there.2 there.3 within holds r.2 r.3 begins in
                fold_reaches test (beside_all test trie zones) (range_with_len 0 n) all i (i, j) (range_has n 0 i (omega arith) (omega arith))
                (λ best. subst (Covers test (beside_all test trie zones best i)) (ordered_up i j less) (all_reaches test trie zones i (filed_as r.1 j).entry e (apart_places i j less) best)) first passes
            | inr begins ↦
                let e = found_here trie zones j i there.1 there.0 r.1 r.0 there.3 there.2 within_i holds r.3 r.2 begins in
                fold_reaches test (beside_all test trie zones) (range_with_len 0 n) all j (i, j) (range_has n 0 j (omega arith) (omega arith))
                (λ best. subst (Covers test (beside_all test trie zones best j)) (ordered_down i j less) (all_reaches test trie zones j (filed_as r.0 i).entry e (apart_places-down i j less) best)) first passes
          ]
    ]

-- ---- the least pair is one

one_first : (test : ℕ × ℕ → Bool) (n : ℕ) (o r : Option (ℕ × ℕ)) → First test 0 n o → First test 0 n r → o ≡ r
one_first test n None None x y = refl
one_first test n None (Some q) x y = absurd (false≢true (sym (x q.0 q.1 y.0 y.1 y.2) ∙ y.3))
one_first test n (Some p) None x y = absurd (false≢true (sym (y p.0 p.1 x.0 x.1 x.2) ∙ x.3))
one_first test n (Some p) (Some q) x y = elim (pair_cases p q) [
  | inl before ↦ absurd (false≢true (sym (y.4 p.0 p.1 x.0 x.1 x.2 before) ∙ x.3))
  | inr on ↦ elim on [
    | inl same ↦ ap (λ (p : ℕ × ℕ). Some p) same
    | inr after ↦ absurd (false≢true (sym (x.4 q.0 q.1 y.0 y.1 y.2 after) ∙ y.3))
  ]
]

from_covers : (levels : List Level) (zones : List Filing) (o : Option (ℕ × ℕ)) → IsGood (meet_at levels zones) o → ((i j : ℕ) → i < j → Covers (meet_at levels zones) o (i, j)) → First (meet_at levels zones) 0 (length zones) o
from_covers levels zones None good covers = λ i j low less within. elim (bool_cases (meet_at levels zones (i, j))) [
  | inl passes ↦ let c = covers i j less passes in absurd (none-some c.0 c.1)
  | inr fails ↦ fails
]
from_covers levels zones (Some q) good covers =
    let g = good q refl in
    let there = there_both (filings_meet levels) (slice_get zones q.0) (slice_get zones q.1) g.1 in
    let low : 0 ≤ q.0 = omega arith in (
      low,
      g.0,
      slice_get_within zones q.1 there.1 there.3,
      g.1,
      λ i j low less within before. elim (bool_cases (meet_at levels zones (i, j))) [
        | inl passes ↦
            let c = covers i j less passes in
            let same : q ≡ c.0 = same_Some q c.0 c.1 in
            absurd (c.2 (subst (IsBefore (i, j)) same before))
        | inr fails ↦ fails
      ],
    )

-- ---- the zones that were compiled

folds_alike : (service : List ℕ) (def : ServiceDef) (zone : ZoneRow) → FoldsAlike def (zone_patterns service def zone)
folds_alike service def zone = λ ms a w u.
    let m = Contains-mapped (map_patterns def) (maps_for service zone) ms w in
    let l = Contains-mapped (level_patterns def) m.0.items a (subst (λ (ms : List LevelPatterns). Contains ms a) (sym m.2) u) in
    subst (λ (a : LevelPatterns). a.fold ≡ folds (level_of def a.name)) l.2 refl

compiled_alike : (service : List ℕ) (def : ServiceDef) (zones : List ZoneRow) (filed : List Filing) → maps_of filed ≡ map (zone_patterns service def) zones → (i : ℕ) (f : Filing) → slice_get filed i ≡ Some f → FoldsAlike def f.maps
compiled_alike service def zones filed same i f e =
    let w = Contains-map (λ (f : Filing). f.maps) filed f (Contains-slice_get filed i f e) in
    let z = Contains-mapped (zone_patterns service def) zones f.maps (subst (λ (ms : List (List (List LevelPatterns))). Contains ms f.maps) same w) in
    subst (FoldsAlike def) z.2 (folds_alike service def z.0)

meet_mapped : (levels : List Level) (zones : List Filing) (p : ℕ × ℕ) → meet_at levels zones p ≡ at_pair (some_meet levels) (maps_of zones) p
meet_mapped levels zones p =
    sym (ap (λ o. holds_of (some_meet levels) o (slice_get (maps_of zones) p.1)) (get_mapped (λ (f : Filing). f.maps) zones p.0)
    ∙ ap (λ o. holds_of (some_meet levels) (option_map (λ (f : Filing). f.maps) (slice_get zones p.0)) o) (get_mapped (λ (f : Filing). f.maps) zones p.1)
    ∙ at (slice_get zones p.0) (slice_get zones p.1)) where
      at : (o q : Option Filing) → holds_of (some_meet levels) (option_map (λ (f : Filing). f.maps) o) (option_map (λ (f : Filing). f.maps) q) ≡ holds_of (filings_meet levels) o q
      at None q = refl
      at (Some f) None = refl
      at (Some f) (Some g) = refl

length_of : (zones : List Filing) → length (maps_of zones) ≡ length zones
length_of [] = refl
length_of (f ∷ zones) = ap suc (length_of zones)

-- the pair that is left is the least pair of zones that overlap
pub found_first : (service : List ℕ) (def : ServiceDef) (zones : List ZoneRow) (trie : List Pair) (filed : List Filing) → maps_of filed ≡ map (zone_patterns service def) zones → AreFiled def.levels.items filed
    → HoldsFirst trie filed (length filed) → found_pair def.levels.items trie filed ≡ first_overlap service def zones
found_first service def zones trie filed same placed holds =
    let levels = def.levels.items in
    let n = length filed in
    let found = from_covers levels filed (found_pair levels trie filed) (found_is_good levels trie filed) (found_covers def levels trie filed placed holds (compiled_alike service def zones filed same)) in
    one_first (meet_at levels filed) n (found_pair levels trie filed) (find (meet_at levels filed) (place_pairs n)) found (first_of (meet_at levels filed) n n 0 (omega arith))
    ∙ find_agree (meet_at levels filed) (at_pair (some_meet levels) (maps_of filed)) (meet_mapped levels filed) (place_pairs n)
    ∙ ap (λ m. find (at_pair (some_meet levels) (maps_of filed)) (place_pairs m)) (sym (length_of filed))
    ∙ ap (λ ms. find (at_pair (some_meet levels) ms) (place_pairs (length ms))) same
    ∙ same_pair service def zones

-- ---- one more zone

pub mapped_more : {X Y : Type 0} (f : X → Y) (ys : List Y) (xs : List X) (i : ℕ) (x : X) (y : Y) → ys ≡ map f (take i xs) → y ≡ f x → i < length xs → x ≡ get_or xs i x → ys ++ y ∷ [] ≡ map f (take (i + 1) xs)
mapped_more {Y = Y} f ys xs i x y so_far same within is =
    ap (λ (ys : List Y). ys ++ y ∷ []) so_far ∙ ap (λ (y : Y). map f (take i xs) ++ y ∷ []) same
    ∙ sym (map-append f (take i xs) (x ∷ [])) ∙ ap (map f) (sym (take_next i xs x within is))

pub filed_more : (levels : List Level) (zones : List Filing) (f : Filing) → AreFiled levels zones → IsFiled levels f → AreFiled levels (zones ++ f ∷ [])
filed_more levels zones f all one = λ place g there. elim (Contains-append_cases zones (f ∷ []) g (Contains-slice_get (zones ++ f ∷ []) place g there)) [
  | inl before ↦ let p = place_of zones g before in all p.0 g p.1
  | inr last ↦ elim (Contains-cases f [] g last) [ inl same ↦ subst (IsFiled levels) same one | inr none ↦ absurd (Contains-none g none) ]
] where
  place_of : (zones : List Filing) (g : Filing) → Contains zones g → (place : ℕ) × (slice_get zones place ≡ Some g)
  place_of zones g h = (h.0, slice_get_there zones h.0 g h.1 ∙ ap (λ (x : Filing). Some x) h.2)
