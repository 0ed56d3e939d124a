-- What the rules say of the patterns of a map, and when a resource lies on it.
use Rattle.std.proofs.Common.{◌≡◌, ◌⊎◌, ◌&&◌, ◌||◌, ◌++◌, ℕ, zero, suc, Bool, true, false, not, cond, IsTrue, List, [], ◌∷◌, map, Option, Some, None, nat_eq, refl, sym, ap, subst, ◌∙◌, inl, inr}
use Rattle.std.proofs.lemmas.Bool.{false≢true, and_from, and_parts, not-true}
use Rattle.std.proofs.lemmas.List.Folds.{list_all-map}
use Rattle.std.proofs.lemmas.Simd.{map-map}
use Rattle.std.proofs.lemmas.Slice.Eq.{bytes_eq-Decides}
use Rattle.std.specs.List.{flat_map, list_all, list_any}
use Rattle.std.specs.Option.{is_some}
use Rattle.std.specs.Str.{all_scalars, bytes_eq}
use lib.Utf8.{scalar}
use Rattle.rg_base.specs.Listed.{Listed}
use Rattle.rg_base.specs.Texts.{all_distinct, is_among, is_name}
use Rattle.rg_defs.specs.declared.service_def.Level.{Level}
use Rattle.rg_defs.specs.declared.service_def.ServiceDef.{ServiceDef}
use Rattle.rg_defs.specs.Paths.{level_of}
use Rattle.rg_defs.specs.PathTests.{on_one_path}
use Rattle.rg_defs.specs.Rules.{has_level}
use Rattle.rg_pattern.specs.declared.atoms.Atom.{Atom}
use Rattle.rg_pattern.specs.declared.atoms.Atom.TheVariants.{Character, One, Any, User}
use Rattle.rg_pattern.specs.Atoms.{are_scalars, has_user, is_user, twin}
use Rattle.rg_pattern.specs.Reading.{atom_of, atoms_of, atoms_past, user_mark, value_fits}
use Rattle.rg_pattern.specs.Tests.{stands, strip_prefix}
use Rattle.rg_policy.specs.declared.policy.PolicyResource.{PolicyResource}
use Rattle.rg_policy.specs.declared.request.Element.{Element}
use Rattle.rg_resmatch.specs.declared.reach.Reach.TheVariants.{Down}
use Rattle.rg_resmatch.specs.Rules.{is_some_resource, is_some_text, named_levels}
use Rattle.rg_resmatch.specs.Tests.{any_stands, is_hit, is_some_element, levels_of, may_name, meets, star, value_at}
use Rattle.rg_zone_rules.specs.declared.row.ZoneLevel.{ZoneLevel}
use Rattle.rg_zone_rules.specs.Overlap.{LevelPatterns, folds, form_scalars, level_names, level_patterns, map_patterns, map_texts, value_patterns, wilds, with_twin}
use Rattle.rg_zone_rules.specs.Rules.{level_values_fit, map_fits}
use Rattle.rg_zone_rules.specs.Zones.{is_recursive, map_lies, zone_resource, zone_resources}
use Rattle.rg_base.proofs.Lists.{list_any-map}
use Rattle.rg_zones.proofs.Members.{Has, agree_all, all_has, any_has, flat_has, has_all, has_any, has_flat, has_mapped, not_missed}

-- a value of the level, or none
abbrev pub met : LevelPatterns → Option (List ℕ) → Bool
met a None = a.lists_star
met a (Some v) = any_stands a.fold [] v a.patterns

-- a resource lies on the map
abbrev pub form_lies : List Level → List LevelPatterns → List Element → Bool
form_lies levels ms elements = is_some_element elements
    && (on_one_path levels (level_names ms ++ map (λ (e : Element). e.level) elements)
    && list_all (λ (a : LevelPatterns). met a (value_at elements a.name)) ms)

shuffle : (a b c d : Bool) → (a || (b || (c || d))) ≡ ((a || c) || (b || d))
shuffle true b c d = refl
shuffle false true true d = refl
shuffle false true false d = refl
shuffle false false c d = refl

or_nothing : (a : Bool) → (a || false) ≡ a
or_nothing true = refl
or_nothing false = refl

-- the patterns, and below them the twins
any_split : (fold : Bool) (v : List ℕ) (b : Bool) (f : List ℕ → List Atom) (texts : List (List ℕ))
    → any_stands fold [] v (flat_map (λ t. with_twin b (f t)) texts) ≡ (any_stands fold [] v (map f texts) || (b && any_stands fold [] v (map twin (map f texts))))
any_split fold v true f [] = refl
any_split fold v false f [] = refl
any_split fold v true f (t ∷ texts) =
    ap (λ b. stands fold [] (f t) v || (stands fold [] (twin (f t)) v || b)) (any_split fold v true f texts)
    ∙ shuffle (stands fold [] (f t) v) (stands fold [] (twin (f t)) v) (any_stands fold [] v (map f texts)) (any_stands fold [] v (map twin (map f texts)))
any_split fold v false f (t ∷ texts) =
    ap (λ b. stands fold [] (f t) v || b) (any_split fold v false f texts ∙ or_nothing (any_stands fold [] v (map f texts)))
    ∙ sym (or_nothing (stands fold [] (f t) v || any_stands fold [] v (map f texts)))

abbrev resource_at : Option Level → ZoneLevel → PolicyResource
resource_at o l = record { level = l.level; values = l.values; excludes = false; recursive = is_recursive o }

hit_same : (l : ZoneLevel) (v : List ℕ) (o : Option Level) → (o ≡ None → ⊥) → is_hit o (resource_at o l) [] v ≡ any_stands (folds o) [] v (flat_map (value_patterns o) l.values.items)
hit_same l v None known = absurd (known refl)
hit_same l v (Some d) known = sym (any_split d.fold v d.recursive (atoms_of d.wild) l.values.items)

met_same : (def : ServiceDef) (l : ZoneLevel) → has_level def.levels.items l.level ≡ true → (o : Option (List ℕ)) → meets def [] (zone_resource def l) o ≡ met (level_patterns def l) o
met_same def l known None = refl
met_same def l known (Some v) = hit_same l v (level_of def l.level) (not_missed (λ (d : Level). bytes_eq d.name l.level) def.levels.items known)

all_pass : (resources : List PolicyResource) (elements : List Element) → list_all (may_name Down resources) elements ≡ true
all_pass resources [] = refl
all_pass resources (e ∷ es) = all_pass resources es

and_true : (b : Bool) → (b && true) ≡ b
and_true true = refl
and_true false = refl

same_names : (def : ServiceDef) (ls : List ZoneLevel) → named_levels (zone_resources def ls) ≡ level_names (map (level_patterns def) ls)
same_names def ls = map-map (λ (r : PolicyResource). r.level) (zone_resource def) ls ∙ sym (map-map (λ (a : LevelPatterns). a.name) (level_patterns def) ls)

abbrev pub all_known : (def : ServiceDef) (m : Listed ZoneLevel) → Type 0
all_known def m = (l : ZoneLevel) → Has m.items l → has_level def.levels.items l.level ≡ true

pub lies_same : (def : ServiceDef) (m : Listed ZoneLevel) (elements : List Element) → all_known def m → map_lies def elements m ≡ form_lies def.levels.items (map_patterns def m) elements
lies_same def m elements known =
    let levels = def.levels.items in
    let rs = zone_resources def m.items in
    let some = is_some_element elements in
    let names = map (λ (e : Element). e.level) elements in
    let each =
    list_all-map (λ (r : PolicyResource). meets def [] r (value_at elements r.level)) (zone_resource def) m.items
    ∙ agree_all (λ (l : ZoneLevel). meets def [] (zone_resource def l) (value_at elements l.level)) (λ (l : ZoneLevel). met (level_patterns def l) (value_at elements l.level)) m.items (λ l h. met_same def l (known l h) (value_at elements l.level))
    ∙ sym (list_all-map (λ (a : LevelPatterns). met a (value_at elements a.name)) (level_patterns def) m.items) in
    ap (λ b. some && (on_one_path levels (levels_of rs elements) && (list_all (λ (r : PolicyResource). meets def [] r (value_at elements r.level)) rs && b))) (all_pass rs elements)
    ∙ ap (λ b. some && (on_one_path levels (levels_of rs elements) && b)) (and_true _ ∙ each)
    ∙ ap (λ (ns : List (List ℕ)). some && (on_one_path levels (ns ++ names) && list_all (λ (a : LevelPatterns). met a (value_at elements a.name)) (map_patterns def m))) (same_names def m.items)

-- the patterns of a map that passes the rules
pub record IsForm (def : ServiceDef) (ms : List LevelPatterns) : Type 0 where
  pub some : (a : LevelPatterns) × Has ms a
  pub apart : all_distinct (λ (a b : LevelPatterns). bytes_eq b.name a.name) ms ≡ true
  pub folds : (a : LevelPatterns) → Has ms a → a.fold ≡ folds (level_of def a.name)
  pub plain : (a : LevelPatterns) → Has ms a → (p : List Atom) → Has a.patterns p → has_user p ≡ false
  pub starred : (a : LevelPatterns) → Has ms a → a.lists_star ≡ true → any_stands a.fold [] star a.patterns ≡ true
  pub there : (a : LevelPatterns) → Has ms a → (p : List Atom) × Has a.patterns p

-- the levels of a map that passes the rules

level_known : (def : ServiceDef) (m : Listed ZoneLevel) → map_fits def m ≡ true
    → (is_some_resource (zone_resources def m.items) ≡ true)
    × (all_distinct (λ (r s : PolicyResource). bytes_eq s.level r.level) (zone_resources def m.items) ≡ true)
    × (list_all (λ (r : PolicyResource). has_level def.levels.items r.level) (zone_resources def m.items) ≡ true)
    × (list_all level_values_fit m.items ≡ true)
level_known def m h =
    let parts = and_parts _ (list_all level_values_fit m.items) h in
    let first = and_parts _ _ parts.0 in
    let second = and_parts _ _ first.1 in
    let third = and_parts _ _ second.1 in
    (first.0, second.0, third.0, parts.1)

pub known : (def : ServiceDef) (m : Listed ZoneLevel) → map_fits def m ≡ true → all_known def m
known def m h = λ l within.
    has_all (λ (l : ZoneLevel). has_level def.levels.items l.level) m.items
    (sym (list_all-map (λ (r : PolicyResource). has_level def.levels.items r.level) (zone_resource def) m.items) ∙ (level_known def m h).2) l within

distinct_mapped : {X Y : Type 0} (same : X → X → Bool) (f : Y → X) (ys : List Y) → all_distinct same (map f ys) ≡ all_distinct (λ a b. same (f a) (f b)) ys
distinct_mapped same f [] = refl
distinct_mapped same f (y ∷ ys) =
    ap (λ b. not b && all_distinct same (map f ys)) (list_any-map (same (f y)) f ys)
    ∙ ap (λ b. not (list_any (λ z. same (f y) (f z)) ys) && b) (distinct_mapped same f ys)

apart_from : (def : ServiceDef) (ls : List ZoneLevel) → all_distinct (λ (r s : PolicyResource). bytes_eq s.level r.level) (zone_resources def ls) ≡ true
    → all_distinct (λ (a b : LevelPatterns). bytes_eq b.name a.name) (map (level_patterns def) ls) ≡ true
apart_from def ls h =
    distinct_mapped (λ (a b : LevelPatterns). bytes_eq b.name a.name) (level_patterns def) ls
    ∙ sym (distinct_mapped (λ (r s : PolicyResource). bytes_eq s.level r.level) (zone_resource def) ls) ∙ h

some_from : (def : ServiceDef) (ls : List ZoneLevel) → is_some_resource (zone_resources def ls) ≡ true → (a : LevelPatterns) × Has (map (level_patterns def) ls) a
some_from def [] h = absurd (false≢true h)
some_from def (l ∷ ls) h = (level_patterns def l, inl refl)

-- the patterns of one value

of_value : (b : Bool) (q p : List Atom) → Has (with_twin b q) p → (p ≡ q) ⊎ (p ≡ twin q)
of_value true q p h = elim h [ inl one ↦ inl (sym one) | inr on ↦ elim on [ inl two ↦ inr (sym two) | inr none ↦ absurd none ] ]
of_value false q p h = elim h [ inl one ↦ inl (sym one) | inr none ↦ absurd none ]

first_value : (b : Bool) (q : List Atom) → Has (with_twin b q) q
first_value true q = inl refl
first_value false q = inl refl

abbrev pub TwinUser : Type 0
TwinUser = (p : List Atom) → has_user (twin p) ≡ has_user p

abbrev pub TwinScalars : Type 0
TwinScalars = (p : List Atom) → IsTrue (are_scalars p) → IsTrue (are_scalars (twin p))

no_user : (a b : Bool) (c : ℕ) → is_user (cond a Any (cond b One (Character c))) ≡ false
no_user true b c = refl
no_user false true c = refl
no_user false false c = refl

-- whether `{USER}` is read doesn't depend on wildcards
user_alike : (wild : Bool) (skip : ℕ) (t : List ℕ) → has_user (atoms_past wild skip t) ≡ has_user (atoms_past false skip t)
user_alike wild skip [] = refl
user_alike wild (suc skip) (c ∷ t) = user_alike wild skip t
user_alike wild zero (c ∷ t) = at (is_some (strip_prefix false user_mark (c ∷ t))) (user_alike wild 0 t) where
  at : (b : Bool) → has_user (atoms_past wild 0 t) ≡ has_user (atoms_past false 0 t)
      → has_user (cond b (User ∷ atoms_past wild 5 t) (atom_of wild c ∷ atoms_past wild 0 t)) ≡ has_user (cond b (User ∷ atoms_past false 5 t) (atom_of false c ∷ atoms_past false 0 t))
  at true rest = refl
  at false rest = ap (λ b. b || has_user (atoms_past wild 0 t)) (no_user (wild && nat_eq c 42) (wild && nat_eq c 63) c) ∙ rest

pub plain_text : (wild : Bool) (t : List ℕ) → value_fits t ≡ true → has_user (atoms_of wild t) ≡ false
plain_text wild t h = user_alike wild 0 t ∙ not-true (has_user (atoms_of false t)) (and_parts (is_name t) (not (has_user (atoms_of false t))) h).1

plain_value : TwinUser → (o : Option Level) (texts : List (List ℕ)) → list_all value_fits texts ≡ true → (p : List Atom) → Has (flat_map (value_patterns o) texts) p → has_user p ≡ false
plain_value law o texts h p within =
    let t = flat_has (value_patterns o) texts p within in
    let fits = has_all value_fits texts h t.0 t.1 in
    let q = atoms_of (wilds o) t.0 in
    let plain = plain_text (wilds o) t.0 fits in
    elim (of_value (is_recursive o) q p t.2) [
      | inl same ↦ ap has_user same ∙ plain
      | inr below ↦ ap has_user below ∙ law q ∙ plain
    ]

there_value : (o : Option Level) (texts : List (List ℕ)) → is_some_text texts ≡ true → (p : List Atom) × Has (flat_map (value_patterns o) texts) p
there_value o [] h = absurd (false≢true h)
there_value o (t ∷ ts) h = (atoms_of (wilds o) t, has_flat (value_patterns o) (t ∷ ts) t (atoms_of (wilds o) t) (inl refl) (first_value (is_recursive o) (atoms_of (wilds o) t)))

star_stands : (fold wild : Bool) → stands fold [] (atoms_of wild star) star ≡ true
star_stands true true = refl
star_stands true false = refl
star_stands false true = refl
star_stands false false = refl

starred_value : (o : Option Level) (fold : Bool) (texts : List (List ℕ)) → is_among star texts ≡ true → any_stands fold [] star (flat_map (value_patterns o) texts) ≡ true
starred_value o fold texts h =
    let t = has_any (λ t. bytes_eq t star) texts h in
    let same = (bytes_eq-Decides t.0 star).0 t.2 in
    let p = atoms_of (wilds o) t.0 in
    any_has (λ p. stands fold [] p star) (flat_map (value_patterns o) texts) p (has_flat (value_patterns o) texts t.0 p t.1 (first_value (is_recursive o) p))
    (ap (λ (t : List ℕ). stands fold [] (atoms_of (wilds o) t) star) same ∙ star_stands fold (wilds o))

pub form_of : TwinUser → (def : ServiceDef) (m : Listed ZoneLevel) → map_fits def m ≡ true → IsForm def (map_patterns def m)
form_of law def m h =
    let k = level_known def m h in
    let level = has_mapped (level_patterns def) m.items in
    let fits = λ (l : ZoneLevel) (w : Has m.items l). and_parts (is_some_text l.values.items) (list_all value_fits l.values.items) (has_all level_values_fit m.items k.3 l w) in
    record {
      some = some_from def m.items k.0;
      apart = apart_from def m.items k.1;
      folds = λ a within. let l = level a within in subst (λ (a : LevelPatterns). a.fold ≡ folds (level_of def a.name)) l.2 refl;
      plain = λ a within. let l = level a within in
          subst (λ (a : LevelPatterns). (p : List Atom) → Has a.patterns p → has_user p ≡ false) l.2 (plain_value law (level_of def l.0.level) l.0.values.items (fits l.0 l.1).1);
      starred = λ a within. let l = level a within in
          subst (λ (a : LevelPatterns). a.lists_star ≡ true → any_stands a.fold [] star a.patterns ≡ true) l.2 (starred_value (level_of def l.0.level) (folds (level_of def l.0.level)) l.0.values.items);
      there = λ a within. let l = level a within in
          subst (λ (a : LevelPatterns). (p : List Atom) × Has a.patterns p) l.2 (there_value (level_of def l.0.level) l.0.values.items (fits l.0 l.1).0);
    }

-- the characters of a pattern are those of the text that it was read from

of_atom : (any one : Bool) (c : ℕ) (p : List Atom) → scalar c ≡ true → are_scalars p ≡ true → are_scalars (cond any Any (cond one One (Character c)) ∷ p) ≡ true
of_atom true one c p s e = e
of_atom false true c p s e = e
of_atom false false c p s e = and_from _ _ s e

of_choice : (mark : Bool) (p q : List Atom) → are_scalars p ≡ true → are_scalars q ≡ true → are_scalars (cond mark p q) ≡ true
of_choice true p q e h = e
of_choice false p q e h = h

scalars_past : (wild : Bool) (skip : ℕ) (t : List ℕ) → all_scalars t ≡ true → are_scalars (atoms_past wild skip t) ≡ true
scalars_past wild skip [] s = refl
scalars_past wild (suc skip) (c ∷ t) s = scalars_past wild skip t (and_parts (scalar c) (all_scalars t) s).1
scalars_past wild zero (c ∷ t) s =
    let k = and_parts (scalar c) (all_scalars t) s in
    of_choice (is_some (strip_prefix false user_mark (c ∷ t))) (User ∷ atoms_past wild 5 t) (atom_of wild c ∷ atoms_past wild 0 t) (scalars_past wild 5 t k.1)
    (of_atom (wild && nat_eq c 42) (wild && nat_eq c 63) c (atoms_past wild 0 t) k.0 (scalars_past wild 0 t k.1))

scalar_values : TwinScalars → (o : Option Level) (texts : List (List ℕ)) → list_all all_scalars texts ≡ true → list_all are_scalars (flat_map (value_patterns o) texts) ≡ true
scalar_values law o texts h = all_has are_scalars (flat_map (value_patterns o) texts) (λ p within.
    let t = flat_has (value_patterns o) texts p within in
    let s = scalars_past (wilds o) 0 t.0 (has_all all_scalars texts h t.0 t.1) in
    elim (of_value (is_recursive o) (atoms_of (wilds o) t.0) p t.2) [
      | inl same ↦ ap are_scalars same ∙ s
      | inr below ↦ ap are_scalars below ∙ law (atoms_of (wilds o) t.0) s
    ])

pub scalars_of : TwinScalars → (def : ServiceDef) (m : Listed ZoneLevel) → map_texts m ≡ true → form_scalars (map_patterns def m) ≡ true
scalars_of law def m h =
    list_all-map (λ (a : LevelPatterns). list_all are_scalars a.patterns) (level_patterns def) m.items
    ∙ all_has (λ (l : ZoneLevel). list_all are_scalars (level_patterns def l).patterns) m.items
    (λ l within. scalar_values law (level_of def l.level) l.values.items (has_all (λ (l : ZoneLevel). list_all all_scalars l.values.items) m.items h l within))
