-- Policies with the values of their maps read once, and covering over them: for the proofs of this crate alone.
use Rattle.std.specs.Prelude.{◌≡◌, ℕ, ◌&&◌, ◌||◌, Bool, true, false, List, map, Option, if◌then◌else◌}
use Rattle.std.specs.List.{find, list_all, list_any}
use Rattle.std.specs.Option.{option_map_or}
use Rattle.std.specs.Str.{bytes_eq}
use Rattle.rg_defs.specs.declared.service_def.ServiceDef.{ServiceDef}
use Rattle.rg_pattern.specs.declared.atoms.Atom.{Atom}
use Rattle.rg_policy.specs.declared.policy.Policy.{Policy}
use Rattle.rg_policy.specs.declared.policy.PolicyResource.{PolicyResource}
use Rattle.rg_policy.specs.declared.policy.ResourceMap.{ResourceMap}
use Rattle.rg_policy.specs.Maps.{maps_of}
use Rattle.rg_resmatch.specs.Rules.{policy_levels_fit}
use Rattle.rg_resmatch.specs.Tests.{is_open}
use Rattle.rg_delegate.specs.Covering.{equals, ignores_case, patterns_at, some_covers}

-- a resource, its values read once
pub record LevelForm : Type 0 where
  pub written : PolicyResource
  pub patterns : List (List Atom)
  pub fold : Bool

abbrev pub level_form : ServiceDef → PolicyResource → LevelForm
level_form def r = record { written = r; patterns = patterns_at def r; fold = ignores_case def r.level }

abbrev pub map_form : ServiceDef → List PolicyResource → List LevelForm
map_form def resources = map (level_form def) resources

abbrev pub map_forms : ServiceDef → List ResourceMap → List (List LevelForm)
map_forms def maps = map (λ (m : ResourceMap). map_form def m.levels.items) maps

-- a policy under the definition of its service
pub record DefinedPolicy : Type 0 where
  pub def : ServiceDef
  pub policy : Policy

abbrev pub under : ServiceDef → Policy → DefinedPolicy
under def p = record { def = def; policy = p }

-- the policy passes V5, and these are its maps
pub record IsRead (def : ServiceDef) (p : Policy) (maps : List (List LevelForm)) : Type 0 where
  pub levels : policy_levels_fit def p ≡ true
  pub forms : maps ≡ map_forms def (maps_of p)

abbrev pub form_values_cover : LevelForm → LevelForm → Bool
form_values_cover m n = list_all (some_covers m.fold m.patterns) n.patterns

abbrev pub form_covers : LevelForm → LevelForm → Bool
form_covers m n = if m.written.excludes || n.written.excludes then equals m.written n.written || is_open m.written else form_values_cover m n

abbrev pub form_at : List LevelForm → List ℕ → Option LevelForm
form_at forms name = find (λ (f : LevelForm). bytes_eq f.written.level name) forms

abbrev pub form_covered : List LevelForm → LevelForm → Bool
form_covered m n = option_map_or (λ (f : LevelForm). form_covers f n) (form_at m n.written.level) false

abbrev pub names_form : List LevelForm → List ℕ → Bool
names_form forms name = list_any (λ (f : LevelForm). bytes_eq f.written.level name) forms

abbrev pub is_form_shared_or_open : List LevelForm → LevelForm → Bool
is_form_shared_or_open n f = names_form n f.written.level || is_open f.written

-- the levels of the first map, which lie on one path, cover those of the second
abbrev pub form_map_covers : List LevelForm → List LevelForm → Bool
form_map_covers m n = list_all (form_covered m) n && list_all (is_form_shared_or_open n) m

abbrev pub form_map_covered : List (List LevelForm) → List LevelForm → Bool
form_map_covered maps n = list_any (λ (m : List LevelForm). form_map_covers m n) maps

abbrev pub form_maps_cover : List (List LevelForm) → List (List LevelForm) → Bool
form_maps_cover q p = list_all (form_map_covered q) p
