-- What resource maps are compiled to, and the matching over it: for the proofs of this crate alone.
use Rattle.std.specs.Prelude.{◌≡◌, ℕ, ◌&&◌, not, Bool, true, false, List, [], ◌∷◌, map, Option, Some, None, option_map, if◌then◌else◌}
use Rattle.std.specs.List.{filter_map, list_all, list_any, slice_get}
use Rattle.std.specs.Str.{bytes_eq}
use Rattle.rg_base.specs.Listed.{Listed, listed}
use Rattle.rg_base.specs.Texts.{is_among}
use Rattle.rg_defs.specs.declared.service_def.Level.{Level}
use Rattle.rg_defs.specs.declared.service_def.ServiceDef.{ServiceDef}
use Rattle.rg_defs.specs.Paths.{level_of}
use Rattle.rg_defs.specs.PathTests.{lies_on, paths_of}
use Rattle.rg_pattern.specs.declared.atoms.Atom.{Atom}
use Rattle.rg_pattern.specs.Reading.{value_patterns}
use Rattle.rg_policy.specs.declared.policy.PolicyResource.{PolicyResource}
use Rattle.rg_policy.specs.declared.policy.ResourceMap.{ResourceMap}
use Rattle.rg_policy.specs.declared.request.Element.{Element}
use Rattle.rg_resmatch.specs.declared.reach.Reach.{Reach}
use Rattle.rg_resmatch.specs.declared.reach.Reach.TheVariants.{Exact, Down}
use Rattle.rg_resmatch.specs.Rules.{named_levels}
use Rattle.rg_resmatch.specs.Tests.{any_stands, is_open, is_some_element, some_lies, value_at}

-- a resource, its values read once
pub record LevelForm : Type 0 where
  pub name : List ℕ
  pub patterns : List (List Atom)
  pub excludes : Bool
  pub fold : Bool
  -- it matches where the request doesn't name the level
  pub alone : Bool

-- the patterns of a level that is there
abbrev pub patterns_at : Option Level → PolicyResource → List (List Atom)
patterns_at None r = []
patterns_at (Some l) r = value_patterns l.wild r.recursive r.values.items

abbrev pub folds : Option Level → Bool
folds None = false
folds (Some l) = l.fold

abbrev pub is_known : Option Level → Bool
is_known None = false
is_known (Some l) = true

abbrev pub level_form : ServiceDef → PolicyResource → LevelForm
level_form def r = record {
  name = r.level;
  patterns = patterns_at (level_of def r.level) r;
  excludes = is_known (level_of def r.level) && r.excludes;
  fold = folds (level_of def r.level);
  alone = is_open r;
}

-- whether the level is hit
abbrev pub form_hit : LevelForm → List ℕ → List ℕ → Bool
form_hit f user v =
    let found = any_stands f.fold user v f.patterns in
    if f.excludes then not found else found

abbrev pub form_meets : List ℕ → LevelForm → Option (List ℕ) → Bool
form_meets user f None = f.alone
form_meets user f (Some v) = form_hit f user v

-- the names of the levels on a path
abbrev pub path_names : List Level → List ℕ → List (List ℕ)
path_names levels path = filter_map (λ place. option_map (λ (l : Level). l.name) (slice_get levels place)) path

-- the names on each of these paths on which the resources lie
abbrev pub named_paths : List Level → List PolicyResource → List (Listed ℕ) → List (Listed (List ℕ))
named_paths levels resources [] = []
named_paths levels resources (path ∷ paths) = if list_all (lies_on levels path.items) (named_levels resources)
    then listed (path_names levels path.items) ∷ named_paths levels resources paths
    else named_paths levels resources paths

-- a map, its values read once
pub record MapForm : Type 0 where
  pub levels : List LevelForm
  -- where the reach is down, the paths on which a request may lie
  pub paths : Option (List (Listed (List ℕ)))
  pub written : Listed PolicyResource

abbrev pub paths_for : Reach → List Level → List PolicyResource → Option (List (Listed (List ℕ)))
paths_for Exact levels resources = None
paths_for Down levels resources = Some (named_paths levels resources (map listed (paths_of levels)))

abbrev pub map_form : ServiceDef → Reach → Listed PolicyResource → MapForm
map_form def reach resources = record {
  levels = map (level_form def) resources.items;
  paths = paths_for reach def.levels.items resources.items;
  written = resources;
}

abbrev pub map_forms : ServiceDef → Reach → List ResourceMap → List MapForm
map_forms def reach maps = map (λ (m : ResourceMap). map_form def reach m.levels) maps

abbrev pub names_form : List LevelForm → List ℕ → Bool
names_form forms name = list_any (λ (f : LevelForm). bytes_eq f.name name) forms

-- the request names no level but those of the resources, where there are no paths to look at; else it lies on one of these
abbrev pub in_reach : List LevelForm → List Element → Option (List (Listed (List ℕ))) → Bool
in_reach forms elements None = list_all (λ (e : Element). names_form forms e.level) elements
in_reach forms elements (Some paths) = list_any (λ (names : Listed (List ℕ)). list_all (λ (e : Element). is_among e.level names.items) elements) paths

-- the matching of one map, and of several
abbrev pub form_lies : MapForm → List Element → List ℕ → Bool
form_lies f elements user = is_some_element elements
    && (list_all (λ (l : LevelForm). form_meets user l (value_at elements l.name)) f.levels && in_reach f.levels elements f.paths)

abbrev pub some_form_lies : List MapForm → List Element → List ℕ → Bool
some_form_lies forms elements user = list_any (λ (f : MapForm). form_lies f elements user) forms

-- the maps as they were written
abbrev pub written_maps : List MapForm → List ResourceMap
written_maps forms = map (λ (f : MapForm). record { levels = f.written }) forms

-- the compiled maps answer as what they were compiled from
abbrev pub Answers : List MapForm → ServiceDef → Reach → Type 0
Answers forms def reach = (elements : List Element) (user : List ℕ) → some_form_lies forms elements user ≡ some_lies def (written_maps forms) reach elements user
