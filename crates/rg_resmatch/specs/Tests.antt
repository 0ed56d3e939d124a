-- Whether a level is hit, and whether resources lie on those of a request, computed.
use Rattle.std.specs.Prelude.{ℕ, ◌&&◌, ◌||◌, not, Bool, true, false, List, [], ◌∷◌, ◌++◌, map, Option, Some, None, option_map, if◌then◌else◌}
use Rattle.std.specs.List.{find, list_all, list_any}
use Rattle.std.specs.Str.{bytes_eq}
use Rattle.rg_base.specs.Texts.{is_among}
use Rattle.rg_defs.specs.declared.service_def.Level.{Level}
use Rattle.rg_defs.specs.declared.service_def.ServiceDef.{ServiceDef}
use Rattle.rg_defs.specs.Paths.{level_of}
use Rattle.rg_defs.specs.PathTests.{on_one_path}
use Rattle.rg_defs.specs.Rules.{tag_name}
use Rattle.rg_pattern.specs.declared.atoms.Atom.{Atom}
use Rattle.rg_pattern.specs.Atoms.{twin}
use Rattle.rg_pattern.specs.Reading.{atoms_of}
use Rattle.rg_pattern.specs.Tests.{stands}
use Rattle.rg_policy.specs.declared.policy.PolicyResource.{PolicyResource}
use Rattle.rg_policy.specs.declared.policy.ResourceMap.{ResourceMap}
use Rattle.rg_policy.specs.declared.request.Element.{Element}
use Rattle.rg_resmatch.specs.declared.reach.Reach.{Reach}
use Rattle.rg_resmatch.specs.declared.reach.Reach.TheVariants.{Exact, Down}

-- some pattern stands for the value
abbrev pub any_stands : Bool → List ℕ → List ℕ → List (List Atom) → Bool
any_stands fold user v patterns = list_any (λ p. stands fold user p v) patterns

-- the patterns of the written values
abbrev pub patterns_of : Level → PolicyResource → List (List Atom)
patterns_of level r = map (atoms_of level.wild) r.values.items

-- some value stands for v, or the resource is recursive and some twin does
abbrev pub some_stands : Level → PolicyResource → List ℕ → List ℕ → Bool
some_stands level r user v = any_stands level.fold user v (patterns_of level r) || (r.recursive && any_stands level.fold user v (map twin (patterns_of level r)))

-- the level is hit: where the resource is excluding the answer is turned round
abbrev pub hit : Level → PolicyResource → List ℕ → List ℕ → Bool
hit level r user v = if r.excludes then not (some_stands level r user v) else some_stands level r user v

-- an unknown level is never hit
abbrev pub is_hit : Option Level → PolicyResource → List ℕ → List ℕ → Bool
is_hit None r user v = false
is_hit (Some level) r user v = hit level r user v

-- the value that the request has for this level: of elements with one level the first counts
abbrev pub value_at : List Element → List ℕ → Option (List ℕ)
value_at elements name = option_map (λ (e : Element). e.value) (find (λ (e : Element). bytes_eq e.level name) elements)

-- `*`
abbrev pub star : List ℕ
star = 42 ∷ []

-- it isn't excluding, and has the written value `*`
abbrev pub is_open : PolicyResource → Bool
is_open r = not r.excludes && is_among star r.values.items

-- a level that the request names too is hit, and one that it doesn't name is open
abbrev pub meets : ServiceDef → List ℕ → PolicyResource → Option (List ℕ) → Bool
meets def user r None = is_open r
meets def user r (Some v) = is_hit (level_of def r.level) r user v

-- some resource is on this level
abbrev pub names_level : List PolicyResource → List ℕ → Bool
names_level resources name = list_any (λ (r : PolicyResource). bytes_eq r.level name) resources

-- a level that the request alone names is passed over where the reach is down
abbrev pub may_name : Reach → List PolicyResource → Element → Bool
may_name Exact resources e = names_level resources e.level
may_name Down resources e = true

abbrev pub is_some_element : List Element → Bool
is_some_element [] = false
is_some_element (e ∷ es) = true

-- the levels of both, those of the resources first
abbrev pub levels_of : List PolicyResource → List Element → List (List ℕ)
levels_of resources elements = map (λ (r : PolicyResource). r.level) resources ++ map (λ (e : Element). e.level) elements

-- the resources lie on those of the request
abbrev pub lies : ServiceDef → List PolicyResource → Reach → List Element → List ℕ → Bool
lies def resources reach elements user = is_some_element elements
    && (on_one_path def.levels.items (levels_of resources elements)
    && (list_all (λ (r : PolicyResource). meets def user r (value_at elements r.level)) resources
    && list_all (may_name reach resources) elements))

-- some map lies on the request's resource
abbrev pub some_lies : ServiceDef → List ResourceMap → Reach → List Element → List ℕ → Bool
some_lies def maps reach elements user = list_any (λ (m : ResourceMap). lies def m.levels.items reach elements user) maps

-- the elements of a resource that is a tag
abbrev pub tag_elements : List ℕ → List Element
tag_elements tag = record { level = tag_name; value = tag } ∷ []
