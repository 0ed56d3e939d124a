-- Maps and policies that cover what others cover.
use Rattle.std.proofs.Common.{◌≡◌, ◌⊎◌, ◌&&◌, not, ℕ, Bool, true, false, cond, List, [], ◌∷◌, ◌++◌, Option, Some, Contains, refl, sym, ap, ◌∙◌, inl, inr}
use Rattle.std.proofs.lemmas.Bool.{and_parts, and_from, false≢true, not-true, or_cases, or_left, or_right}
use Rattle.std.proofs.lemmas.List.Elements.{Contains-append_cases, Contains-append_left, Contains-append_right}
use Rattle.std.proofs.lemmas.Option.{same_Some}
use Rattle.std.proofs.lemmas.Slice.Eq.{bytes_eq-Decides}
use Rattle.std.specs.List.{list_all, list_any}
use Rattle.std.specs.Option.{option_map_or}
use Rattle.std.specs.Str.{bytes_eq}
use Rattle.rg_base.proofs.Lists.{Contains-cases, Contains-none, all_from, all_holds, any_from, any_holds}
use Rattle.rg_defs.specs.declared.service_def.ServiceDef.{ServiceDef}
use Rattle.rg_defs.specs.PathTests.{on_one_path}
use Rattle.rg_policy.specs.declared.policy.Policy.{Policy}
use Rattle.rg_policy.specs.declared.policy.PolicyResource.{PolicyResource}
use Rattle.rg_policy.specs.declared.policy.ResourceMap.{ResourceMap}
use Rattle.rg_policy.specs.Maps.{maps_of}
use Rattle.rg_resmatch.specs.Rules.{named_levels, policy_levels_fit}
use Rattle.rg_resmatch.specs.Tests.{is_open, names_level}
use Rattle.rg_delegate.specs.Covering.{is_shared_or_open, level_covered, map_covered, map_covers, policy_covers, resource_at, resource_covers}
use Rattle.rg_delegate.specs.Laws.{every_resource, writes_star}
use Rattle.rg_delegate.proofs.Fitting.{MapFits, fewer_on_path, have_own_levels, maps_fit}
use Rattle.rg_delegate.proofs.Forms.{covered_is_named, levels_among}
use Rattle.rg_delegate.proofs.Patterns.{CoversLaw}
use Rattle.rg_delegate.proofs.Resources.{resource_third, stays_open}

-- ---- the resource of a level

-- where levels are distinct, each resource is the one that is found on its level
pub own_level : (m : List PolicyResource) → have_own_levels m ≡ true → (r : PolicyResource) → Contains m r → resource_at m r.level ≡ Some r
own_level [] h r within = absurd (Contains-none r within)
own_level (x ∷ m) h r within =
    let parts = and_parts (not (list_any (λ (s : PolicyResource). bytes_eq s.level x.level) m)) (have_own_levels m) h in
    at parts.0 (own_level m parts.1 r) (Contains-cases x m r within) where
      at : not (list_any (λ (s : PolicyResource). bytes_eq s.level x.level) m) ≡ true → (Contains m r → resource_at m r.level ≡ Some r) → (x ≡ r) ⊎ Contains m r → resource_at (x ∷ m) r.level ≡ Some r
      at alone rest (inl same) = ap (λ b. cond b (Some x) (resource_at m r.level)) ((bytes_eq-Decides x.level r.level).1 (ap (λ (s : PolicyResource). s.level) same)) ∙ ap (λ (s : PolicyResource). Some s) same
      at alone rest (inr later) = by_test (bytes_eq x.level r.level) refl where
        by_test : (b : Bool) → bytes_eq x.level r.level ≡ b → cond b (Some x) (resource_at m r.level) ≡ Some r
        by_test true e =
            let level = (bytes_eq-Decides x.level r.level).0 e in
            absurd (false≢true (sym (not-true _ alone) ∙ any_from (λ (s : PolicyResource). bytes_eq s.level x.level) m r later ((bytes_eq-Decides r.level x.level).1 (sym level))))
        by_test false e = rest later

pub names_of_level : (n : List PolicyResource) (name : List ℕ) → names_level n name ≡ true → (r : PolicyResource) × Contains n r × (r.level ≡ name)
names_of_level n name h =
    let r = any_holds (λ (r : PolicyResource). bytes_eq r.level name) n h in
    (r.0, r.1, (bytes_eq-Decides r.0.level name).0 r.2)

pub names_level_from : (n : List PolicyResource) (r : PolicyResource) (name : List ℕ) → Contains n r → r.level ≡ name → names_level n name ≡ true
names_level_from n r name within e = any_from (λ (r : PolicyResource). bytes_eq r.level name) n r within ((bytes_eq-Decides r.level name).1 e)

pub record MapCovers (def : ServiceDef) (m n : List PolicyResource) : Type 0 where
  pub path : on_one_path def.levels.items (named_levels m ++ named_levels n) ≡ true
  pub covered : list_all (level_covered def m) n ≡ true
  pub shared : list_all (is_shared_or_open n) m ≡ true

pub map_holds : (def : ServiceDef) (m n : List PolicyResource) → map_covers def m n ≡ true → MapCovers def m n
map_holds def m n h =
    let path = on_one_path def.levels.items (named_levels m ++ named_levels n) in
    let covered = list_all (level_covered def m) n in
    let shared = list_all (is_shared_or_open n) m in
    let one = and_parts path (covered && shared) h in
    let two = and_parts covered shared one.1 in
    record { path = one.0; covered = two.0; shared = two.1 }

-- a resource that shares its level with one of the map that is covered covers it
pub shared_covers : (def : ServiceDef) (m n : List PolicyResource) → MapFits def m → MapCovers def m n → (r s : PolicyResource) → Contains m r → Contains n s → s.level ≡ r.level → resource_covers def r s ≡ true
shared_covers def m n fit k r s within there e =
    let c = covered_is_named def m s (all_holds (level_covered def m) n k.covered s there) in
    let same : c.0 ≡ r = same_Some c.0 r (sym c.1 ∙ ap (resource_at m) e ∙ own_level m fit.distinct r within) in
    ap (λ (x : PolicyResource). resource_covers def x s) (sym same) ∙ c.4

-- ---- a third map

module _ (law : CoversLaw) (def : ServiceDef) (m n o : List PolicyResource) (fit : MapFits def m) (starry : list_all (writes_star def) m ≡ true) (k : MapCovers def m n) (l : MapCovers def n o) where
  third_path : on_one_path def.levels.items (named_levels m ++ named_levels o) ≡ true
  third_path = fewer_on_path def.levels.items (named_levels m ++ named_levels n) (named_levels m ++ named_levels o) (λ name within. at name (Contains-append_cases (named_levels m) (named_levels o) name within)) k.path where
    at : (name : List ℕ) → Contains (named_levels m) name ⊎ Contains (named_levels o) name → Contains (named_levels m ++ named_levels n) name
    at name w = elim w [
      | inl here ↦ Contains-append_left (named_levels m) (named_levels n) name here
      | inr there ↦ Contains-append_right (named_levels m) (named_levels n) name (levels_among def n o l.covered name there)
    ]

  third_covered_level : (s : PolicyResource) → Contains o s → level_covered def m s ≡ true
  third_covered_level s within =
      let b = covered_is_named def n s (all_holds (level_covered def n) o l.covered s within) in
      let a = covered_is_named def m b.0 (all_holds (level_covered def m) n k.covered b.0 b.2) in
      ap (λ (x : Option PolicyResource). option_map_or (λ (r : PolicyResource). resource_covers def r s) x false) (ap (resource_at m) (sym b.3) ∙ a.1)
      ∙ resource_third law def a.0 b.0 s a.3 (all_holds (writes_star def) m starry a.0 a.2) a.4 b.4

  third_shared : (r : PolicyResource) → Contains m r → is_shared_or_open o r ≡ true
  third_shared r within = elim (or_cases (names_level n r.level) (is_open r) (all_holds (is_shared_or_open n) m k.shared r within)) [
    | inl named ↦ by_n (names_of_level n r.level named)
    | inr star ↦ or_right (names_level o r.level) _ star
  ] where
    by_n : (b : PolicyResource) × Contains n b × (b.level ≡ r.level) → is_shared_or_open o r ≡ true
    by_n b = elim (or_cases (names_level o b.0.level) (is_open b.0) (all_holds (is_shared_or_open o) n l.shared b.0 b.1)) [
      | inl named ↦ or_left (names_level o r.level) _ (ap (names_level o) (sym b.2) ∙ named)
      | inr star ↦ or_right (names_level o r.level) _ (stays_open def r b.0 (sym b.2) (all_holds (writes_star def) m starry r within) (shared_covers def m n fit k r b.0 within b.1 b.2) star)
    ]

  pub map_third : map_covers def m o ≡ true
  map_third = and_from _ _ third_path (and_from _ _ (all_from (level_covered def m) o third_covered_level) (all_from (is_shared_or_open o) m third_shared))

-- ---- a third policy

pub policy_third : CoversLaw → (def : ServiceDef) (q p other : Policy) → policy_levels_fit def q ≡ true → every_resource (writes_star def) q ≡ true
    → policy_covers def q p ≡ true → policy_covers def p other ≡ true → policy_covers def q other ≡ true
policy_third law def q p other fit starry h g = all_from (map_covered def (maps_of q)) (maps_of other) (λ o within.
    let n = any_holds (λ (m : ResourceMap). map_covers def m.levels.items o.levels.items) (maps_of p) (all_holds (map_covered def (maps_of p)) (maps_of other) g o within) in
    let m = any_holds (λ (m : ResourceMap). map_covers def m.levels.items n.0.levels.items) (maps_of q) (all_holds (map_covered def (maps_of q)) (maps_of p) h n.0 n.1) in
    any_from (λ (m : ResourceMap). map_covers def m.levels.items o.levels.items) (maps_of q) m.0 m.1
    (map_third law def m.0.levels.items n.0.levels.items o.levels.items (maps_fit def q fit m.0 m.1)
    (all_holds (λ (m : ResourceMap). list_all (writes_star def) m.levels.items) (maps_of q) starry m.0 m.1)
    (map_holds def m.0.levels.items n.0.levels.items m.2) (map_holds def n.0.levels.items o.levels.items n.2)))
