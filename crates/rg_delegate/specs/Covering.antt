-- When one policy covers another: where everything that the other is for, it is for too.
use Rattle.std.specs.Prelude.{ℕ, ◌&&◌, ◌||◌, not, Bool, true, false, List, ◌++◌, Option, if◌then◌else◌}
use Rattle.std.specs.List.{find, list_all, list_any}
use Rattle.std.specs.Option.{option_map_or}
use Rattle.std.specs.Str.{bytes_eq}
use Rattle.rg_base.specs.Texts.{is_among}
use Rattle.rg_defs.specs.declared.service_def.Level.{Level}
use Rattle.rg_defs.specs.declared.service_def.ServiceDef.{ServiceDef}
use Rattle.rg_defs.specs.Paths.{level_of}
use Rattle.rg_defs.specs.PathTests.{on_one_path}
use Rattle.rg_pattern.specs.declared.atoms.Atom.{Atom}
use Rattle.rg_pattern.specs.Reading.{value_patterns}
use Rattle.rg_pattern.specs.Tests.{covers}
use Rattle.rg_policy.specs.declared.policy.Policy.{Policy}
use Rattle.rg_policy.specs.declared.policy.PolicyResource.{PolicyResource}
use Rattle.rg_policy.specs.declared.policy.ResourceMap.{ResourceMap}
use Rattle.rg_policy.specs.Maps.{maps_of}
use Rattle.rg_resmatch.specs.Rules.{named_levels}
use Rattle.rg_resmatch.specs.Tests.{is_open, names_level}
use Rattle.rg_same_resources.specs.Twins.{same_flag, same_texts}

-- whether the level of this name has wildcards, and whether it ignores case; an unknown one does neither
abbrev pub has_wildcards : ServiceDef → List ℕ → Bool
has_wildcards def name = option_map_or (λ (l : Level). l.wild) (level_of def name) false

abbrev pub ignores_case : ServiceDef → List ℕ → Bool
ignores_case def name = option_map_or (λ (l : Level). l.fold) (level_of def name) false

-- the patterns of the resource's values, each before its twin where the resource is recursive
abbrev pub patterns_at : ServiceDef → PolicyResource → List (List Atom)
patterns_at def r = value_patterns (has_wildcards def r.level) r.recursive r.values.items

-- one of the patterns covers this one
abbrev pub some_covers : Bool → List (List Atom) → List Atom → Bool
some_covers fold patterns p = list_any (λ q. covers fold q p) patterns

-- every value of n, and its twin if n is recursive, is covered by a value of m, or by its twin if m is recursive
abbrev pub values_cover : ServiceDef → PolicyResource → PolicyResource → Bool
values_cover def m n = list_all (some_covers (ignores_case def m.level) (patterns_at def m)) (patterns_at def n)

-- the two are equal up to the order and repeats of values
abbrev pub equals : PolicyResource → PolicyResource → Bool
equals m n = same_flag m.excludes n.excludes
    && (same_flag m.recursive n.recursive && same_texts m.values.items n.values.items)

-- of two resources of one level the first covers the second: by their values where neither is excluding; else where they are equal, or where the first isn't excluding and lists `*`
abbrev pub resource_covers : ServiceDef → PolicyResource → PolicyResource → Bool
resource_covers def m n = if m.excludes || n.excludes then equals m n || is_open m else values_cover def m n

-- what these resources have for the level
abbrev pub resource_at : List PolicyResource → List ℕ → Option PolicyResource
resource_at resources name = find (λ (r : PolicyResource). bytes_eq r.level name) resources

-- the resources m cover the resource n: a level that they don't name isn't covered
abbrev pub level_covered : ServiceDef → List PolicyResource → PolicyResource → Bool
level_covered def m n = option_map_or (λ (r : PolicyResource). resource_covers def r n) (resource_at m n.level) false

-- a level that m alone names is covered where m isn't excluding and lists `*`
abbrev pub is_shared_or_open : List PolicyResource → PolicyResource → Bool
is_shared_or_open n r = names_level n r.level || is_open r

-- one map covers another: all levels of both lie on one path, and each level that either of them names is covered
abbrev pub map_covers : ServiceDef → List PolicyResource → List PolicyResource → Bool
map_covers def m n = on_one_path def.levels.items (named_levels m ++ named_levels n)
    && (list_all (level_covered def m) n && list_all (is_shared_or_open n) m)

-- the map is covered by one of these
abbrev pub map_covered : ServiceDef → List ResourceMap → ResourceMap → Bool
map_covered def maps n = list_any (λ (m : ResourceMap). map_covers def m.levels.items n.levels.items) maps

-- q covers p: every map of p is covered by some map of q
abbrev pub policy_covers : ServiceDef → Policy → Policy → Bool
policy_covers def q p = list_all (map_covered def (maps_of q)) (maps_of p)
