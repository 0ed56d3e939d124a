-- The maps of a policy lie where those lie that they cover.
use Rattle.std.proofs.Common.{◌≡◌, ◌⊎◌, ◌↔◌, ◌&&◌, ◌||◌, not, if◌then◌else◌, ℕ, Bool, true, false, List, [], ◌∷◌, ◌++◌, map, Option, Some, None, option_map, IsTrue, Contains, append-nil, refl, sym, ap, subst, ◌∙◌, inl, inr}
use Rattle.std.proofs.lemmas.Bool.{and_parts, and_from, false≢true, or_cases}
use Rattle.std.proofs.lemmas.List.Elements.{Contains-append_cases, Contains-append_left, Contains-append_right}
use Rattle.std.proofs.lemmas.Option.{none-some}
use Rattle.std.proofs.lemmas.Slice.Eq.{bytes_eq-Decides}
use Rattle.std.specs.List.{find, list_all}
use Rattle.std.specs.Option.{option_map_or}
use Rattle.std.specs.Str.{bytes_eq}
use Rattle.rg_base.proofs.Lists.{Contains-cases, Contains-first, Contains-flat_map, Contains-flat_mapped, Contains-later, Contains-map, Contains-mapped, Contains-none, Contains-same, all_from, all_holds, among_holds, any_from, any_holds, find_contained}
use Rattle.rg_base.specs.Texts.{is_among}
use Rattle.rg_defs.specs.declared.service_def.Level.{Level}
use Rattle.rg_defs.specs.declared.service_def.ServiceDef.{ServiceDef}
use Rattle.rg_defs.specs.Paths.{level_of}
use Rattle.rg_defs.specs.PathTests.{on_one_path}
use Rattle.rg_pattern.specs.declared.atoms.Atom.{Atom}
use Rattle.rg_pattern.specs.declared.atoms.Atom.TheVariants.{Any}
use Rattle.rg_pattern.specs.Atoms.{twin}
use Rattle.rg_pattern.specs.Covering.{Covers}
use Rattle.rg_pattern.specs.Reading.{atoms_of, value_patterns, with_twin}
use Rattle.rg_pattern.specs.Standing.{Stands}
use Rattle.rg_pattern.specs.Tests.{covers}
use Rattle.rg_policy.specs.declared.policy.Policy.{Policy}
use Rattle.rg_policy.specs.declared.policy.PolicyResource.{PolicyResource}
use Rattle.rg_policy.specs.declared.policy.ResourceMap.{ResourceMap}
use Rattle.rg_policy.specs.declared.request.Element.{Element}
use Rattle.rg_policy.specs.Maps.{maps_of}
use Rattle.rg_resmatch.specs.declared.reach.Reach.TheVariants.{Exact}
use Rattle.rg_resmatch.specs.Lies.{Hit, SomeStands, Turned}
use Rattle.rg_resmatch.specs.Rules.{named_levels, policy_levels_fit}
use Rattle.rg_resmatch.specs.Tests.{hit, is_hit, is_open, is_some_element, levels_of, lies, may_name, meets, names_level, some_lies, star, value_at}
use Rattle.rg_delegate.specs.Covering.{has_wildcards, ignores_case, is_shared_or_open, map_covered, map_covers, patterns_at, policy_covers, resource_covers}
use Rattle.rg_delegate.specs.Laws.{every_resource, excludes_by_wildcards, writes_star}
use Rattle.rg_delegate.proofs.Finding.{chosen}
use Rattle.rg_delegate.proofs.Fitting.{MapFits, fewer_on_path, maps_fit}
use Rattle.rg_delegate.proofs.Forms.{levels_among}
use Rattle.rg_delegate.proofs.Maps.{MapCovers, map_holds, names_level_from, names_of_level, shared_covers}
use Rattle.rg_delegate.proofs.Patterns.{CoversLaw}
use Rattle.rg_delegate.proofs.Resources.{AreSame, Way, by_equal, by_star, by_values, open_includes, pattern_covered, stays_open, value_among, way_of}

abbrev pub HitLaw : Type 0
HitLaw = (level : Level) (r : PolicyResource) (user v : List ℕ) → IsTrue (hit level r user v) ↔ Hit level r user v

abbrev pub KeepsLaw : Type 0
KeepsLaw = (fold : Bool) (user : List ℕ) (q p : List Atom) (t : List ℕ) → Covers fold q p → Stands fold user p t → Stands fold user q t

-- ---- values and their patterns

-- some pattern of the resource stands for the value
abbrev SomePattern : Level → PolicyResource → List ℕ → List ℕ → Type 0
SomePattern l r user v = (p : List Atom) × Contains (value_patterns l.wild r.recursive r.values.items) p × Stands l.fold user p v

pattern_from : (l : Level) (r : PolicyResource) (user v : List ℕ) → SomeStands l r user v → SomePattern l r user v
pattern_from l r user v h =
    let both = λ (t : List ℕ). with_twin r.recursive (atoms_of l.wild t) in
    elim h [
      | inl now ↦
          let p = atoms_of l.wild now.0 in
          (p, Contains-flat_map both r.values.items now.0 p now.1 (Contains-first p (if r.recursive then twin p ∷ [] else [])), now.2)
      | inr down ↦
          let p = atoms_of l.wild down.1.0 in
          let there : Contains (if r.recursive then twin p ∷ [] else []) (twin p) =
          subst (λ (b : Bool). Contains (if b then twin p ∷ [] else []) (twin p)) (sym down.0) (Contains-first (twin p) []) in
          (twin p, Contains-flat_map both r.values.items down.1.0 (twin p) down.1.1 (Contains-later p (if r.recursive then twin p ∷ [] else []) (twin p) there), down.1.2)
    ]

pattern_to : (l : Level) (r : PolicyResource) (user v : List ℕ) → SomePattern l r user v → SomeStands l r user v
pattern_to l r user v (p, within, stands) =
    let both = λ (t : List ℕ). with_twin r.recursive (atoms_of l.wild t) in
    let t = Contains-flat_mapped both r.values.items p within in
    let own = atoms_of l.wild t.0 in
    elim (Contains-cases own (if r.recursive then twin own ∷ [] else []) p t.2) [
      | inl same ↦ inl (t.0, t.1, subst (λ (q : List Atom). Stands l.fold user q v) (sym same) stands)
      | inr later ↦
          let c = chosen r.recursive (twin own ∷ []) p later in
          elim (Contains-cases (twin own) [] p c.1) [
            | inl same ↦ inr (c.0, (t.0, t.1, subst (λ (q : List Atom). Stands l.fold user q v) (sym same) stands))
            | inr none ↦ absurd (Contains-none p none)
          ]
    ]

-- ---- one level

turned_out : (b : Bool) (P : Type 0) → b ≡ true → Turned b P → P → ⊥
turned_out b P e h = let k : Turned true P = subst (λ (c : Bool). Turned c P) e h in k

turned_in : (b : Bool) (P : Type 0) → b ≡ true → (P → ⊥) → Turned b P
turned_in b P e h = let k : Turned true P = h in subst (λ (c : Bool). Turned c P) (sym e) k

straight_out : (b : Bool) (P : Type 0) → b ≡ false → Turned b P → P
straight_out b P e h = let k : Turned false P = subst (λ (c : Bool). Turned c P) e h in k

straight_in : (b : Bool) (P : Type 0) → b ≡ false → P → Turned b P
straight_in b P e h = let k : Turned false P = h in subst (λ (c : Bool). Turned c P) (sym e) k

same_stands : (l : Level) (m n : PolicyResource) → AreSame m n → (user v : List ℕ) → SomeStands l m user v → SomeStands l n user v
same_stands l m n s user v h = elim h [
  | inl now ↦ inl (now.0, value_among m.values.items n.values.items s.these now.0 now.1, now.2)
  | inr down ↦ inr (sym s.recursive ∙ down.0, (down.1.0, value_among m.values.items n.values.items s.these down.1.0 down.1.1, down.1.2))
]

star_stands : (l : Level) → l.wild ≡ true → (user v : List ℕ) → Stands l.fold user (atoms_of l.wild star) v
star_stands l wild user v =
    let all : Stands l.fold user (Any ∷ []) v = (v, [], sym (append-nil v), refl) in
    subst (λ (w : Bool). Stands l.fold user (atoms_of w star) v) (sym wild) all

wild_level : (a b : Bool) → (not a || b) ≡ true → a ≡ true → b ≡ true
wild_level true b h e = h
wild_level false b h e = absurd (false≢true e)

module _ (law : CoversLaw) (keeps : KeepsLaw) (def : ServiceDef) (l : Level) (m n : PolicyResource) (level : m.level ≡ n.level) (there : level_of def n.level ≡ Some l) where
  wild_at : (r : PolicyResource) → r.level ≡ n.level → has_wildcards def r.level ≡ l.wild
  wild_at r e = ap (λ (o : Option Level). option_map_or (λ (l : Level). l.wild) o false) (ap (level_of def) e ∙ there)

  fold_at : ignores_case def m.level ≡ l.fold
  fold_at = ap (λ (o : Option Level). option_map_or (λ (l : Level). l.fold) o false) (ap (level_of def) level ∙ there)

  patterns_are : (r : PolicyResource) → r.level ≡ n.level → patterns_at def r ≡ value_patterns l.wild r.recursive r.values.items
  patterns_are r e = ap (λ w. value_patterns w r.recursive r.values.items) (wild_at r e)

  pub hit_kept : resource_covers def m n ≡ true → excludes_by_wildcards def n ≡ true → (user v : List ℕ) → Hit l n user v → Hit l m user v
  hit_kept h wild user v k = at (way_of def m n h) where
    at : Way def m n → Hit l m user v
    at (by_equal s f) = turned_in m.excludes (SomeStands l m user v) f
        (λ stands. turned_out n.excludes (SomeStands l n user v) (sym s.excludes ∙ f) k (same_stands l m n s user v stands))
    at (by_star wide f) =
        let parts = and_parts (not m.excludes) (is_among star m.values.items) wide in
        straight_in m.excludes (SomeStands l m user v) (open_includes m wide)
        (inl (star, among_holds star m.values.items parts.1, star_stands l (sym (wild_at n refl) ∙ wild_level n.excludes (has_wildcards def n.level) wild f) user v))
    at (by_values f g w) =
        let p = pattern_from l n user v (straight_out n.excludes (SomeStands l n user v) g k) in
        let q = pattern_covered def m n w p.0 (subst (λ (ps : List (List Atom)). Contains ps p.0) (sym (patterns_are n refl)) p.1) in
        straight_in m.excludes (SomeStands l m user v) f (pattern_to l m user v (
          q.0,
          subst (λ (ps : List (List Atom)). Contains ps q.0) (patterns_are m level) q.1,
          keeps l.fold user q.0 p.0 v ((law l.fold q.0 p.0).0 (ap (λ b. covers b q.0 p.0) (sym fold_at) ∙ q.2)) p.2,
        ))

known_hit : (def : ServiceDef) (r : PolicyResource) (user v : List ℕ) → is_hit (level_of def r.level) r user v ≡ true → (l : Level) × (level_of def r.level ≡ Some l) × (hit l r user v ≡ true)
known_hit def r user v h = at (level_of def r.level) refl h where
  at : (o : Option Level) → level_of def r.level ≡ o → is_hit o r user v ≡ true → (l : Level) × (level_of def r.level ≡ Some l) × (hit l r user v ≡ true)
  at None e k = absurd (false≢true k)
  at (Some l) e k = (l, e, k)

element_at : (elements : List Element) (name v : List ℕ) → value_at elements name ≡ Some v → (e : Element) × Contains elements e × (e.level ≡ name)
element_at elements name v h = at (find (λ (e : Element). bytes_eq e.level name) elements) refl h where
  at : (o : Option Element) → find (λ (e : Element). bytes_eq e.level name) elements ≡ o → option_map (λ (e : Element). e.value) o ≡ Some v → (e : Element) × Contains elements e × (e.level ≡ name)
  at None e k = absurd (none-some v k)
  at (Some x) e k = let f = find_contained (λ (e : Element). bytes_eq e.level name) elements x e in (x, f.0, (bytes_eq-Decides x.level name).0 f.1)

-- ---- one map

module _ (law : CoversLaw) (keeps : KeepsLaw) (hits : HitLaw) (def : ServiceDef) (m n : List PolicyResource) (elements : List Element) (user : List ℕ)
    (fit : MapFits def m) (starry : list_all (writes_star def) m ≡ true) (wild : list_all (excludes_by_wildcards def) n ≡ true) (k : MapCovers def m n) where
  abbrev Meets : PolicyResource → Bool
  Meets r = meets def user r (value_at elements r.level)

  element_named : list_all (may_name Exact n) elements ≡ true → (e : Element) → Contains elements e → (s : PolicyResource) × Contains n s × (s.level ≡ e.level)
  element_named named e within = names_of_level n e.level (all_holds (may_name Exact n) elements named e within)

  resource_meets : list_all Meets n ≡ true → list_all (may_name Exact n) elements ≡ true → (r : PolicyResource) → Contains m r → Meets r ≡ true
  resource_meets met named r within = at (value_at elements r.level) refl where
    covering : (s : PolicyResource) → Contains n s → s.level ≡ r.level → resource_covers def r s ≡ true
    covering s there e = shared_covers def m n fit k r s within there e

    star_kept : writes_star def r ≡ true
    star_kept = all_holds (writes_star def) m starry r within

    alone : value_at elements r.level ≡ None → (s : PolicyResource) × Contains n s × (s.level ≡ r.level) → is_open r ≡ true
    alone e s = stays_open def r s.0 (sym s.2) star_kept (covering s.0 s.1 s.2)
        (ap (meets def user s.0) (sym (ap (value_at elements) s.2 ∙ e)) ∙ all_holds Meets n met s.0 s.1)

    hit_too : (v : List ℕ) → value_at elements r.level ≡ Some v → (s : PolicyResource) × Contains n s × (s.level ≡ r.level) → is_hit (level_of def r.level) r user v ≡ true
    hit_too v e s =
        let l = known_hit def s.0 user v (ap (meets def user s.0) (sym (ap (value_at elements) s.2 ∙ e)) ∙ all_holds Meets n met s.0 s.1) in
        ap (λ (o : Option Level). is_hit o r user v) (ap (level_of def) (sym s.2) ∙ l.1)
        ∙ (hits l.0 r user v).1 (hit_kept law keeps def l.0 r s.0 (sym s.2) l.1 (covering s.0 s.1 s.2) (all_holds (excludes_by_wildcards def) n wild s.0 s.1) user v ((hits l.0 s.0 user v).0 l.2))

    at : (o : Option (List ℕ)) → value_at elements r.level ≡ o → meets def user r o ≡ true
    at None e = elim (or_cases (names_level n r.level) (is_open r) (all_holds (is_shared_or_open n) m k.shared r within)) [
      | inl shared ↦ alone e (names_of_level n r.level shared)
      | inr wide ↦ wide
    ]
    at (Some v) e =
        let x = element_at elements r.level v e in
        let s = element_named named x.0 x.1 in
        hit_too v e (s.0, s.1, s.2 ∙ x.2)

  levels_lie : list_all (may_name Exact n) elements ≡ true → on_one_path def.levels.items (levels_of m elements) ≡ true
  levels_lie named = fewer_on_path def.levels.items (named_levels m ++ named_levels n) (levels_of m elements) (λ name within. at name (Contains-append_cases (named_levels m) (map (λ (e : Element). e.level) elements) name within)) k.path where
    at : (name : List ℕ) → Contains (named_levels m) name ⊎ Contains (map (λ (e : Element). e.level) elements) name → Contains (named_levels m ++ named_levels n) name
    at name w = elim w [
      | inl here ↦ Contains-append_left (named_levels m) (named_levels n) name here
      | inr asked ↦
          let e = Contains-mapped (λ (e : Element). e.level) elements name asked in
          let s = element_named named e.0 e.1 in
          Contains-append_right (named_levels m) (named_levels n) name (Contains-same (named_levels n) s.0.level name (s.2 ∙ e.2) (Contains-map (λ (r : PolicyResource). r.level) n s.0 s.1))
    ]

  also_named : list_all (may_name Exact n) elements ≡ true → (e : Element) → Contains elements e → may_name Exact m e ≡ true
  also_named named e within =
      let s = element_named named e within in
      let r = Contains-mapped (λ (r : PolicyResource). r.level) m e.level (levels_among def m n k.covered e.level
      (Contains-same (named_levels n) s.0.level e.level s.2 (Contains-map (λ (r : PolicyResource). r.level) n s.0 s.1))) in
      names_level_from m r.0 e.level r.1 r.2

  pub map_lies : lies def n Exact elements user ≡ true → lies def m Exact elements user ≡ true
  map_lies h =
      let path = on_one_path def.levels.items (levels_of n elements) in
      let met = list_all Meets n in
      let named = list_all (may_name Exact n) elements in
      let one = and_parts (is_some_element elements) (path && (met && named)) h in
      let two = and_parts path (met && named) one.1 in
      let three = and_parts met named two.1 in
      and_from _ _ one.0 (and_from _ _ (levels_lie three.1) (and_from _ _ (all_from Meets m (resource_meets three.0 three.1)) (all_from (may_name Exact m) elements (also_named three.1))))

-- ---- a policy

pub policy_lies : CoversLaw → KeepsLaw → HitLaw → (def : ServiceDef) (q p : Policy) (elements : List Element) (user : List ℕ) → policy_levels_fit def q ≡ true
    → every_resource (writes_star def) q ≡ true → every_resource (excludes_by_wildcards def) p ≡ true → policy_covers def q p ≡ true
    → some_lies def (maps_of p) Exact elements user ≡ true → some_lies def (maps_of q) Exact elements user ≡ true
policy_lies law keeps hits def q p elements user fit starry wild covered h =
    let n = any_holds (λ (m : ResourceMap). lies def m.levels.items Exact elements user) (maps_of p) h in
    let m = any_holds (λ (m : ResourceMap). map_covers def m.levels.items n.0.levels.items) (maps_of q) (all_holds (map_covered def (maps_of q)) (maps_of p) covered n.0 n.1) in
    any_from (λ (m : ResourceMap). lies def m.levels.items Exact elements user) (maps_of q) m.0 m.1
    (map_lies law keeps hits def m.0.levels.items n.0.levels.items elements user (maps_fit def q fit m.0 m.1)
    (all_holds (λ (m : ResourceMap). list_all (writes_star def) m.levels.items) (maps_of q) starry m.0 m.1)
    (all_holds (λ (m : ResourceMap). list_all (excludes_by_wildcards def) m.levels.items) (maps_of p) wild n.0 n.1)
    (map_holds def m.0.levels.items n.0.levels.items m.2) n.2)
