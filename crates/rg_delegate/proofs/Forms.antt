-- Maps with their values read cover each other as they were written.
use Rattle.std.proofs.Common.{◌≡◌, ◌⊎◌, ◌&&◌, ◌||◌, ℕ, Bool, true, false, cond, List, [], ◌∷◌, ◌++◌, Option, Some, None, option_map, Contains, refl, sym, ap, ◌∙◌, subst, inl, inr}
use Rattle.std.proofs.lemmas.Bool.{false≢true}
use Rattle.std.proofs.lemmas.List.Elements.{Contains-append_cases}
use Rattle.std.proofs.lemmas.List.Folds.{list_all-map}
use Rattle.std.proofs.lemmas.Slice.Eq.{bytes_eq-Decides}
use Rattle.std.specs.List.{list_all}
use Rattle.std.specs.Option.{option_map_or}
use Rattle.std.specs.Str.{bytes_eq}
use Rattle.rg_base.proofs.Lists.{Contains-map, Contains-mapped, Contains-same, all_holds, find_contained, list_all_agree, list_any-map}
use Rattle.rg_defs.specs.declared.service_def.ServiceDef.{ServiceDef}
use Rattle.rg_defs.specs.PathTests.{on_one_path}
use Rattle.rg_policy.specs.declared.policy.Policy.{Policy}
use Rattle.rg_policy.specs.declared.policy.PolicyResource.{PolicyResource}
use Rattle.rg_policy.specs.declared.policy.ResourceMap.{ResourceMap}
use Rattle.rg_policy.specs.Maps.{maps_of}
use Rattle.rg_resmatch.specs.Rules.{named_levels, policy_levels_fit}
use Rattle.rg_resmatch.specs.Tests.{is_open}
use Rattle.rg_delegate.specs.Compiled.{DefinedPolicy, IsRead, LevelForm, form_at, form_covered, form_covers, form_map_covered, form_map_covers, form_maps_cover, is_form_shared_or_open, level_form, map_form, map_forms}
use Rattle.rg_delegate.specs.Covering.{is_shared_or_open, level_covered, map_covered, map_covers, policy_covers, resource_at, resource_covers}
use Rattle.rg_delegate.proofs.Fitting.{MapFits, fewer_on_path, maps_fit}
use Rattle.rg_delegate.proofs.Members.{agree_any}

-- ---- one level

form_found : (def : ServiceDef) (m : List PolicyResource) (name : List ℕ) → form_at (map_form def m) name ≡ option_map (level_form def) (resource_at m name)
form_found def [] name = refl
form_found def (r ∷ m) name = at (bytes_eq r.level name) (form_found def m name) where
  at : (b : Bool) → form_at (map_form def m) name ≡ option_map (level_form def) (resource_at m name)
      → cond b (Some (level_form def r)) (form_at (map_form def m) name) ≡ option_map (level_form def) (cond b (Some r) (resource_at m name))
  at true e = refl
  at false e = e

level_agrees : (def : ServiceDef) (n : PolicyResource) (o : Option PolicyResource)
    → option_map_or (λ (f : LevelForm). form_covers f (level_form def n)) (option_map (level_form def) o) false ≡ option_map_or (λ (r : PolicyResource). resource_covers def r n) o false
level_agrees def n None = refl
level_agrees def n (Some r) = refl

covered_agrees : (def : ServiceDef) (m : List PolicyResource) (n : PolicyResource) → form_covered (map_form def m) (level_form def n) ≡ level_covered def m n
covered_agrees def m n =
    ap (λ (o : Option LevelForm). option_map_or (λ (f : LevelForm). form_covers f (level_form def n)) o false) (form_found def m n.level)
    ∙ level_agrees def n (resource_at m n.level)

open_agrees : (def : ServiceDef) (n : List PolicyResource) (r : PolicyResource) → is_form_shared_or_open (map_form def n) (level_form def r) ≡ is_shared_or_open n r
open_agrees def n r = ap (λ b. b || is_open r) (list_any-map (λ (f : LevelForm). bytes_eq f.written.level r.level) (level_form def) n)

-- ---- one map

-- a level that is covered is named by the map that covers it
pub covered_is_named : (def : ServiceDef) (m : List PolicyResource) (n : PolicyResource) → level_covered def m n ≡ true
    → (r : PolicyResource) × (resource_at m n.level ≡ Some r) × Contains m r × (r.level ≡ n.level) × (resource_covers def r n ≡ true)
covered_is_named def m n h = at (resource_at m n.level) refl h where
  at : (o : Option PolicyResource) → resource_at m n.level ≡ o → option_map_or (λ (r : PolicyResource). resource_covers def r n) o false ≡ true
      → (r : PolicyResource) × (resource_at m n.level ≡ Some r) × Contains m r × (r.level ≡ n.level) × (resource_covers def r n ≡ true)
  at None e k = absurd (false≢true k)
  at (Some r) e k =
      let f = find_contained (λ (r : PolicyResource). bytes_eq r.level n.level) m r e in
      (r, e, f.0, (bytes_eq-Decides r.level n.level).0 f.1, k)

-- the levels of a map that is covered are among those of the map that covers it
pub levels_among : (def : ServiceDef) (m n : List PolicyResource) → list_all (level_covered def m) n ≡ true → (name : List ℕ) → Contains (named_levels n) name → Contains (named_levels m) name
levels_among def m n h name within =
    let r = Contains-mapped (λ (r : PolicyResource). r.level) n name within in
    let c = covered_is_named def m r.0 (all_holds (level_covered def m) n h r.0 r.1) in
    Contains-same (named_levels m) c.0.level name (c.3 ∙ r.2) (Contains-map (λ (r : PolicyResource). r.level) m c.0 c.2)

both_on_path : (def : ServiceDef) (m n : List PolicyResource) → MapFits def m → list_all (level_covered def m) n ≡ true → on_one_path def.levels.items (named_levels m ++ named_levels n) ≡ true
both_on_path def m n fit h =
    fewer_on_path def.levels.items (named_levels m) (named_levels m ++ named_levels n) (λ name within. at name (Contains-append_cases (named_levels m) (named_levels n) name within)) fit.path where
      at : (name : List ℕ) → Contains (named_levels m) name ⊎ Contains (named_levels n) name → Contains (named_levels m) name
      at name w = elim w [ inl here ↦ here | inr there ↦ levels_among def m n h name there ]

-- the path goes without saying
path_left_out : (path covered rest : Bool) → (covered ≡ true → path ≡ true) → (covered && rest) ≡ (path && (covered && rest))
path_left_out path true rest f = sym (ap (λ b. b && rest) (f refl))
path_left_out true false rest f = refl
path_left_out false false rest f = refl

map_agrees : (def : ServiceDef) (m n : List PolicyResource) → MapFits def m → form_map_covers (map_form def m) (map_form def n) ≡ map_covers def m n
map_agrees def m n fit =
    let covered = list_all (level_covered def m) n in
    let open_levels = list_all (is_shared_or_open n) m in
    ap (λ b. b && list_all (is_form_shared_or_open (map_form def n)) (map_form def m))
    (list_all-map (form_covered (map_form def m)) (level_form def) n ∙ list_all_agree _ _ (covered_agrees def m) n)
    ∙ ap (λ b. covered && b) (list_all-map (is_form_shared_or_open (map_form def n)) (level_form def) m ∙ list_all_agree _ _ (open_agrees def n) m)
    ∙ path_left_out (on_one_path def.levels.items (named_levels m ++ named_levels n)) covered open_levels (both_on_path def m n fit)

-- ---- several maps

maps_agree : (def : ServiceDef) (maps : List ResourceMap) → ((m : ResourceMap) → Contains maps m → MapFits def m.levels.items) → (n : ResourceMap)
    → form_map_covered (map_forms def maps) (map_form def n.levels.items) ≡ map_covered def maps n
maps_agree def maps fit n =
    list_any-map (λ (m : List LevelForm). form_map_covers m (map_form def n.levels.items)) (λ (m : ResourceMap). map_form def m.levels.items) maps
    ∙ agree_any (λ (m : ResourceMap). form_map_covers (map_form def m.levels.items) (map_form def n.levels.items)) (λ (m : ResourceMap). map_covers def m.levels.items n.levels.items) maps
    (λ m within. map_agrees def m.levels.items n.levels.items (fit m within))

pub forms_agree : (def : ServiceDef) (q p : Policy) → policy_levels_fit def q ≡ true → form_maps_cover (map_forms def (maps_of q)) (map_forms def (maps_of p)) ≡ policy_covers def q p
forms_agree def q p fit =
    list_all-map (form_map_covered (map_forms def (maps_of q))) (λ (m : ResourceMap). map_form def m.levels.items) (maps_of p)
    ∙ list_all_agree _ _ (maps_agree def (maps_of q) (maps_fit def q fit)) (maps_of p)

-- policies that were read, under one definition
pub read_agree : (q p : DefinedPolicy) (maps others : List (List LevelForm)) → p.def ≡ q.def → IsRead q.def q.policy maps → IsRead p.def p.policy others
    → form_maps_cover maps others ≡ policy_covers p.def q.policy p.policy
read_agree q p maps others same first other =
    let read = subst (λ (def : ServiceDef). IsRead def q.policy maps) (sym same) first in
    ap (form_maps_cover maps) other.forms
    ∙ ap (λ maps. form_maps_cover maps (map_forms p.def (maps_of p.policy))) read.forms
    ∙ forms_agree p.def q.policy p.policy read.levels
