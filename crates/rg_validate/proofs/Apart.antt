-- Zones that overlap no other where one is put among them.
use Rattle.std.proofs.Common.{◌≡◌, ◌≤◌, ◌-◌, ◌||◌, ◌&&◌, ◌++◌, ℕ, zero, suc, Bool, true, false, not, List, [], ◌∷◌, take, drop, length, position, Option, Some, None, Contains, refl, sym, ap, ◌∙◌, subst, inl, inr, arith, if◌then◌else◌}
use Rattle.std.specs.List.{find, list_all, list_any}
use Rattle.std.specs.Option.{is_none, option_map_or}
use Rattle.std.specs.Str.{bytes_eq}
use Rattle.std.proofs.lemmas.Bool.{and_from, and_parts, both_ways, false_from_ne_true, false≢true, not_from_false, or_left, or_right}
use Rattle.std.proofs.lemmas.List.{append-nil, take_all}
use Rattle.std.proofs.lemmas.List.Folds.{list_any-append}
use Rattle.std.proofs.lemmas.Slice.Eq.{bytes_eq-Decides}
use Rattle.rg_base.specs.Listed.{Listed}
use Rattle.rg_base.specs.Texts.{all_distinct, is_among}
use Rattle.rg_base.proofs.Lists.{Contains-flat_map, Contains-flat_mapped, Contains-none, all_distinct-map, all_from, all_holds, any_from, any_holds, find_contained}
use Rattle.rg_defs.specs.declared.service_def.ServiceDef.{ServiceDef}
use Rattle.rg_zone_rules.specs.Overlap.{first_overlap, maps_overlap, zones_overlap}
use Rattle.rg_zone_rules.specs.Rules.{all_maps_fit, entry_levels_fit, entry_values_fit, lists_each_once, maps_fit, same_name, service_names, zone_levels_fit, zone_values_fit}
use Rattle.rg_zone_rules.specs.Zones.{entry_maps, is_for, maps_for}
use Rattle.rg_zone_rules.specs.declared.row.ZoneLevel.{ZoneLevel}
use Rattle.rg_zone_rules.specs.declared.row.ZoneRow.{ZoneRow}
use Rattle.rg_zone_rules.specs.declared.row.ZoneService.{ZoneService}
use Rattle.rg_zones.specs.Entries.{entries_overlap}
use Rattle.rg_cmd.specs.Lists.{put}
use Rattle.rg_cmd.specs.Lookups.{def_of, is_service, is_zone}
use Rattle.rg_cmd.specs.declared.state.ServiceRow.{ServiceRow}
use Rattle.rg_cmd.specs.declared.state.State.{State}
use Rattle.rg_validate.specs.Definitions.{under}
use Rattle.rg_validate.specs.Apart.{meets_entry, meets_zone}
use Rattle.rg_validate.specs.Valid.{IsValid, zone_valid}
use Rattle.rg_validate.specs.Zones.{are_apart, are_apart_for, plain_services, tag_services, zone_levels_suit, zone_services_fit, zone_subjects_exist, zone_values_suit, zones_with}
use Rattle.rg_validate.proofs.Putting.{bool_is, distinct_middle, distinct_replaced, none_at, put_last, split}
use Rattle.rg_validate.proofs.ValidParts.{def_there, found_itself, row_of}

-- ---- parts of lists

pub take_passes : {X : Type 0} (p : X → Bool) (n : ℕ) (xs : List X) → list_all p xs ≡ true → list_all p (take n xs) ≡ true
take_passes p zero xs h = refl
take_passes p (suc n) [] h = refl
take_passes p (suc n) (x ∷ xs) h = let q = and_parts (p x) (list_all p xs) h in and_from (p x) (list_all p (take n xs)) q.0 (take_passes p n xs q.1)

pub drop_passes : {X : Type 0} (p : X → Bool) (n : ℕ) (xs : List X) → list_all p xs ≡ true → list_all p (drop n xs) ≡ true
drop_passes p zero xs h = h
drop_passes p (suc n) [] h = refl
drop_passes p (suc n) (x ∷ xs) h = drop_passes p n xs (and_parts (p x) (list_all p xs) h).1

drop_length : {X : Type 0} (n : ℕ) (xs : List X) → length (drop n xs) ≤ length xs - n
drop_length zero xs = omega arith
drop_length (suc n) [] = omega arith
drop_length (suc n) (x ∷ xs) = let rest = drop_length n xs in omega (arith, rest)

-- a slice to the end is what is left
pub rest_is : {X : Type 0} (n : ℕ) (xs : List X) → take (length xs - n) (drop n xs) ≡ drop n xs
rest_is n xs = take_all (length xs - n) (drop n xs) (drop_length n xs)

-- ---- a zone in its place

module _ (service : List ℕ) (def : ServiceDef)
    (flip : (a b : ZoneRow) → zones_overlap service def a b ≡ zones_overlap service def b a)
    (pairs : (zones : List ZoneRow) → is_none (first_overlap service def zones) ≡ all_distinct (zones_overlap service def) zones)
    (zones : List ZoneRow) (zone : ZoneRow) (apart : is_none (first_overlap service def zones) ≡ true) where
  abbrev after_put : Bool
  after_put = is_none (first_overlap service def (put (is_zone zone.name) zone zones))

  distinct : all_distinct (zones_overlap service def) zones ≡ true
  distinct = sym (pairs zones) ∙ apart

  kept : (b : Bool) → (b && true) ≡ b
  kept true = refl
  kept false = refl

  -- no zone has its name
  pub apart_new : position (is_zone zone.name) zones ≡ None → after_put ≡ not (list_any (zones_overlap service def zone) zones)
  apart_new none =
      ap (λ zs. is_none (first_overlap service def zs)) (put_last (is_zone zone.name) zone zones (none_at (is_zone zone.name) zones none))
      ∙ pairs (zones ++ zone ∷ [])
      ∙ distinct_middle (zones_overlap service def) flip zone zones []
      ∙ ap (λ zs. not (list_any (zones_overlap service def zone) zs) && all_distinct (zones_overlap service def) zs) (append-nil zones)
      ∙ ap (λ b. not (list_any (zones_overlap service def zone) zones) && b) distinct
      ∙ kept (not (list_any (zones_overlap service def zone) zones))

  alike : (y z : ZoneRow) → is_zone zone.name y ≡ true → is_zone zone.name z ≡ true → bytes_eq z.name y.name ≡ true
  alike y z a b = (bytes_eq-Decides z.name y.name).1 ((bytes_eq-Decides z.name zone.name).0 b ∙ sym ((bytes_eq-Decides y.name zone.name).0 a))

  -- the zone at this place has
  pub apart_put : all_distinct (λ (a b : ZoneRow). bytes_eq b.name a.name) zones ≡ true → (k : ℕ) → position (is_zone zone.name) zones ≡ Some k
      → after_put ≡ not (list_any (zones_overlap service def zone) (take k zones) || list_any (zones_overlap service def zone) (drop (suc k) zones))
  apart_put names k at =
      let s = split (is_zone zone.name) zone (λ (a b : ZoneRow). bytes_eq b.name a.name) alike zones k at names in
      ap (λ zs. is_none (first_overlap service def zs)) s.is
      ∙ pairs (take k zones ++ zone ∷ drop (suc k) zones)
      ∙ distinct_replaced (zones_overlap service def) flip s.old zone (take k zones) (drop (suc k) zones) (ap (all_distinct (zones_overlap service def)) (sym s.was) ∙ distinct)
      ∙ ap not (list_any-append (zones_overlap service def zone) (take k zones) (drop (suc k) zones))

-- ---- what the parts of a valid state are

module _ (s : State) (name : List ℕ) (def : ServiceDef) (there : def_of s name ≡ Some def) where
  same_service : (e : ZoneService) → is_for name e ≡ true → def_of s e.service ≡ Some def
  same_service e h = ap (def_of s) ((bytes_eq-Decides e.service name).0 h) ∙ there

  maps_fit_at : (zone : ZoneRow) → zone_levels_suit s zone ≡ true → zone_values_suit zone ≡ true → maps_fit name def zone ≡ true
  maps_fit_at zone levels values = and_from (zone_levels_fit name def zone) (zone_values_fit name zone)
      (all_from (λ (e : ZoneService). not (is_for name e) || entry_levels_fit def e) zone.services.items (λ e c. elim (bool_is (is_for name e)) [
        | inl h ↦ or_right (not (is_for name e)) (entry_levels_fit def e)
            (ap (λ o. under o (λ d. entry_levels_fit d e)) (sym (same_service e h)) ∙ all_holds (λ (x : ZoneService). under (def_of s x.service) (λ d. entry_levels_fit d x)) zone.services.items levels e c)
        | inr h ↦ or_left (not (is_for name e)) (entry_levels_fit def e) (not_from_false (is_for name e) h)
      ]))
      (all_from (λ (e : ZoneService). not (is_for name e) || entry_values_fit e) zone.services.items (λ e c. or_right (not (is_for name e)) (entry_values_fit e) (all_holds entry_values_fit zone.services.items values e c)))

  pub all_maps_fit_at : list_all (zone_valid s) s.zones.items ≡ true → all_maps_fit name def s.zones.items ≡ true
  all_maps_fit_at zones = all_from (maps_fit name def) s.zones.items (λ z c.
      let a = and_parts (zone_services_fit s z) (zone_levels_suit s z && (zone_values_suit z && zone_subjects_exist s z)) (all_holds (zone_valid s) s.zones.items zones z c) in
      let b = and_parts (zone_levels_suit s z) (zone_values_suit z && zone_subjects_exist s z) a.1 in
      maps_fit_at z b.0 (and_parts (zone_values_suit z) (zone_subjects_exist s z) b.1).0)

  pub apart_at : IsValid s → is_none (first_overlap name def s.zones.items) ≡ true
  unfolding are_apart are_apart_for
  apart_at valid =
      let r = row_of s name def there in
      let found = find_contained (is_service name) s.services.items r.0 r.1 in
      let same : r.0.name ≡ name = (bytes_eq-Decides r.0.name name).0 found.1 in
      let at = all_holds (λ (row : ServiceRow). are_apart_for s s.zones.items row.name) s.services.items valid.apart r.0 found.0 in
      ap (λ o. under o (λ d. is_none (first_overlap name d s.zones.items))) (sym there) ∙ subst (λ n. are_apart_for s s.zones.items n ≡ true) same at

-- what is asked of the service under its definition
pub apart_under : (s : State) (zones : List ZoneRow) (name : List ℕ) (def : ServiceDef) → def_of s name ≡ Some def → are_apart_for s zones name ≡ is_none (first_overlap name def zones)
unfolding are_apart_for
apart_under s zones name def there = ap (λ o. under o (λ d. is_none (first_overlap name d zones))) there

-- what is found passes where all do
pub found_passes : {X : Type 0} (p q : X → Bool) (xs : List X) (x : X) → list_all q xs ≡ true → find p xs ≡ Some x → q x ≡ true
found_passes p q xs x all found = all_holds q xs all x (find_contained p xs x found).0

-- ---- two zones by their entries

-- the maps of a zone for a service are those of its entries for it
maps_of_entry : (service : List ℕ) (e : ZoneService) (m : Listed ZoneLevel) → Contains (entry_maps service e) m → (is_for service e ≡ true) × Contains e.resources.items m
maps_of_entry service e m h = at (is_for service e) refl h where
  at : (b : Bool) → is_for service e ≡ b → Contains (if b then e.resources.items else []) m → (is_for service e ≡ true) × Contains e.resources.items m
  at true is has = (is, has)
  at false is has = absurd (Contains-none m has)

listed_in : (service : List ℕ) (z : ZoneRow) (m : Listed ZoneLevel) → Contains (maps_for service z) m
    → (e : ZoneService) × Contains z.services.items e × (is_for service e ≡ true) × Contains e.resources.items m
listed_in service z m h =
    let r = Contains-flat_mapped (entry_maps service) z.services.items m h in
    let e = maps_of_entry service r.0 m r.2 in
    (r.0, r.1, e.0, e.1)

listed_for : (service : List ℕ) (z : ZoneRow) (e : ZoneService) (m : Listed ZoneLevel) → Contains z.services.items e → is_for service e ≡ true → Contains e.resources.items m
    → Contains (maps_for service z) m
listed_for service z e m on is has =
    Contains-flat_map (entry_maps service) z.services.items e m on (subst (λ b. Contains (if b then e.resources.items else []) m) (sym is) has)

module _ (s : State) (zone : ZoneRow) where
  -- where two zones overlap for a service, they meet at their entries for it
  meets_there : (name : List ℕ) (def : ServiceDef) (z : ZoneRow) → all_distinct (λ (a b : ZoneService). bytes_eq b.service a.service) zone.services.items ≡ true
      → def_of s name ≡ Some def → zones_overlap name def zone z ≡ true → meets_zone s zone z ≡ true
  meets_there name def z distinct there h =
      let a = any_holds (λ m. list_any (maps_overlap def m) (maps_for name z)) (maps_for name zone) h in
      let b = any_holds (maps_overlap def a.0) (maps_for name z) a.2 in
      let e = listed_in name zone a.0 a.1 in
      let f = listed_in name z b.0 b.1 in
      let e_named : e.0.service ≡ name = (bytes_eq-Decides e.0.service name).0 e.2 in
      let f_named : f.0.service ≡ name = (bytes_eq-Decides f.0.service name).0 f.2 in
      let found : find (is_for f.0.service) zone.services.items ≡ Some e.0 =
      ap (λ n. find (is_for n) zone.services.items) (f_named ∙ sym e_named) ∙ found_itself (λ (x : ZoneService). x.service) zone.services.items e.0 distinct e.1 in
      let its : def_of s f.0.service ≡ Some def = ap (def_of s) f_named ∙ there in
      let both : entries_overlap def e.0 f.0 ≡ true =
      any_from (λ m. list_any (maps_overlap def m) f.0.resources.items) e.0.resources.items a.0 e.3 (any_from (maps_overlap def a.0) f.0.resources.items b.0 f.3 b.2) in
      any_from (meets_entry s zone) z.services.items f.0 f.1
      (ap (λ o. option_map_or (λ (x : ZoneService). under (def_of s f.0.service) (λ d. entries_overlap d x f.0)) o false) found
      ∙ ap (λ o. under o (λ d. entries_overlap d e.0 f.0)) its ∙ both)

  -- where they meet at an entry, they overlap for its service
  overlap_at : (z : ZoneRow) (f : ZoneService) → Contains z.services.items f → (o : Option ZoneService) → find (is_for f.service) zone.services.items ≡ o
      → (d : Option ServiceDef) → def_of s f.service ≡ d → option_map_or (λ (e : ZoneService). under d (λ def. entries_overlap def e f)) o false ≡ true
      → (def : ServiceDef) × (def_of s f.service ≡ Some def) × (zones_overlap f.service def zone z ≡ true)
  overlap_at z f on None is d its h = absurd (false≢true h)
  overlap_at z f on (Some e) is None its h = absurd (false≢true h)
  overlap_at z f on (Some e) is (Some def) its h =
      let listed = find_contained (is_for f.service) zone.services.items e is in
      let a = any_holds (λ m. list_any (maps_overlap def m) f.resources.items) e.resources.items h in
      let b = any_holds (maps_overlap def a.0) f.resources.items a.2 in
      let own : is_for f.service f ≡ true = (bytes_eq-Decides f.service f.service).1 refl in (
        def,
        its,
        any_from (λ m. list_any (maps_overlap def m) (maps_for f.service z)) (maps_for f.service zone) a.0 (listed_for f.service zone e a.0 listed.0 listed.1 a.1)
            (any_from (maps_overlap def a.0) (maps_for f.service z) b.0 (listed_for f.service z f b.0 on own b.1) b.2),
      )

  module _ (valid : IsValid s) (distinct : all_distinct (λ (a b : ZoneService). bytes_eq b.service a.service) zone.services.items ≡ true) (others : List ZoneRow)
      (per : (name : List ℕ) (def : ServiceDef) → def_of s name ≡ Some def → is_none (first_overlap name def (zones_with s zone)) ≡ not (list_any (zones_overlap name def zone) others)) where
    apart_where_none : list_any (meets_zone s zone) others ≡ false → are_apart s (zones_with s zone) ≡ true
    unfolding are_apart
    apart_where_none none = all_from (λ (row : ServiceRow). are_apart_for s (zones_with s zone) row.name) s.services.items (λ row c.
        let d = def_there s row.name valid (any_from (is_service row.name) s.services.items row c ((bytes_eq-Decides row.name row.name).1 refl)) in
        let never : list_any (zones_overlap row.name d.0 zone) others ≡ false = false_from_ne_true (list_any (zones_overlap row.name d.0 zone) others) (λ h.
        let a = any_holds (zones_overlap row.name d.0 zone) others h in
        both_ways (list_any (meets_zone s zone) others) none (any_from (meets_zone s zone) others a.0 a.1 (meets_there row.name d.0 a.0 distinct d.1 a.2))) in
        apart_under s (zones_with s zone) row.name d.0 d.1 ∙ per row.name d.0 d.1 ∙ ap not never)

    not_apart_where_some : list_any (meets_zone s zone) others ≡ true → are_apart s (zones_with s zone) ≡ true → ⊥
    unfolding are_apart
    not_apart_where_some some h =
        let a = any_holds (meets_zone s zone) others some in
        let f = any_holds (meets_entry s zone) a.0.services.items a.2 in
        let q = overlap_at a.0 f.0 f.1 (find (is_for f.0.service) zone.services.items) refl (def_of s f.0.service) refl f.2 in
        let row = row_of s f.0.service q.0 q.1 in
        let found = find_contained (is_service f.0.service) s.services.items row.0 row.1 in
        let same : row.0.name ≡ f.0.service = (bytes_eq-Decides row.0.name f.0.service).0 found.1 in
        let apart : are_apart_for s (zones_with s zone) f.0.service ≡ true =
        subst (λ n. are_apart_for s (zones_with s zone) n ≡ true) same (all_holds (λ (r : ServiceRow). are_apart_for s (zones_with s zone) r.name) s.services.items h row.0 found.0) in
        let overlaps : list_any (zones_overlap f.0.service q.0 zone) others ≡ true = any_from (zones_overlap f.0.service q.0 zone) others a.0 a.1 q.2 in
        false≢true (sym (apart_under s (zones_with s zone) f.0.service q.0 q.1 ∙ per f.0.service q.0 q.1 ∙ ap not overlaps) ∙ apart)

    -- the zone in its place stays apart where it meets none of the others
    pub apart_by_entries : are_apart s (zones_with s zone) ≡ not (list_any (meets_zone s zone) others)
    apart_by_entries = elim (bool_is (list_any (meets_zone s zone) others)) [
      | inl some ↦ false_from_ne_true (are_apart s (zones_with s zone)) (not_apart_where_some some) ∙ sym (ap not some)
      | inr none ↦ apart_where_none none ∙ sym (ap not none)
    ]

-- a zone that passes Z2 lists no service twice
pub lists_once : (s : State) (zone : ZoneRow) → zone_services_fit s zone ≡ true → all_distinct (λ (a b : ZoneService). bytes_eq b.service a.service) zone.services.items ≡ true
lists_once s zone fit =
    let services = list_all (λ (e : ZoneService). is_among e.service (plain_services s)) zone.services.items in
    let tags = list_all (λ name. is_among name (tag_services s)) zone.tag_services.items in
    let apart = list_all (λ t. not (is_among t (service_names zone))) zone.tag_services.items in
    let one = all_distinct same_name (service_names zone) in
    let other = all_distinct same_name zone.tag_services.items in
    let once = (and_parts (services && tags) (lists_each_once zone) fit).1 in
    let both = (and_parts (one && other) apart once).0 in
    sym (all_distinct-map same_name (λ (e : ZoneService). e.service) zone.services.items) ∙ (and_parts one other both).0

module _ (s : State) (zone : ZoneRow) (valid : IsValid s) (fit : zone_services_fit s zone ≡ true)
    (flip : (name : List ℕ) (def : ServiceDef) (a b : ZoneRow) → zones_overlap name def a b ≡ zones_overlap name def b a)
    (pairs : (name : List ℕ) (def : ServiceDef) (zones : List ZoneRow) → is_none (first_overlap name def zones) ≡ all_distinct (zones_overlap name def) zones) where
  -- no zone has its name
  pub apart_among : position (is_zone zone.name) s.zones.items ≡ None → are_apart s (zones_with s zone) ≡ not (list_any (meets_zone s zone) s.zones.items)
  apart_among none = apart_by_entries s zone valid (lists_once s zone fit) s.zones.items (λ name def there.
      apart_new name def (flip name def) (pairs name def) s.zones.items zone (apart_at s name def there valid) none)

  -- the zone at this place has
  pub apart_beside : (k : ℕ) → position (is_zone zone.name) s.zones.items ≡ Some k
      → are_apart s (zones_with s zone) ≡ not (list_any (meets_zone s zone) (take k s.zones.items) || list_any (meets_zone s zone) (drop (suc k) s.zones.items))
  apart_beside k at =
      apart_by_entries s zone valid (lists_once s zone fit) (take k s.zones.items ++ drop (suc k) s.zones.items) (λ name def there.
      apart_put name def (flip name def) (pairs name def) s.zones.items zone (apart_at s name def there valid) valid.zone_names k at
      ∙ sym (ap not (list_any-append (zones_overlap name def zone) (take k s.zones.items) (drop (suc k) s.zones.items))))
      ∙ ap not (list_any-append (meets_zone s zone) (take k s.zones.items) (drop (suc k) s.zones.items))

-- the zones of a valid state pass Z4
pub all_values_suit : (s : State) (zones : List ZoneRow) → list_all (zone_valid s) zones ≡ true → list_all zone_values_suit zones ≡ true
all_values_suit s zones h = all_from zone_values_suit zones (λ z c.
    let a = and_parts (zone_services_fit s z) (zone_levels_suit s z && (zone_values_suit z && zone_subjects_exist s z)) (all_holds (zone_valid s) zones h z c) in
    let b = and_parts (zone_levels_suit s z) (zone_values_suit z && zone_subjects_exist s z) a.1 in
    (and_parts (zone_values_suit z) (zone_subjects_exist s z) b.1).0)
