-- Which levels of a policy match what is asked about, and why a map of resources doesn't lie on it.
use Rattle.std.specs.Prelude.{ℕ, ◌&&◌, ◌||◌, not, Bool, false, List, Option, Some, None}
use Rattle.std.specs.List.{find, list_any}
use Rattle.std.specs.Option.{option_map_or}
use Rattle.rg_defs.specs.declared.service_def.Level.{Level}
use Rattle.rg_defs.specs.declared.service_def.ServiceDef.{ServiceDef}
use Rattle.rg_defs.specs.Paths.{level_of}
use Rattle.rg_pattern.specs.Atoms.{twin}
use Rattle.rg_pattern.specs.Reading.{atoms_of}
use Rattle.rg_pattern.specs.Tests.{stands}
use Rattle.rg_policy.specs.declared.policy.PolicyResource.{PolicyResource}
use Rattle.rg_policy.specs.declared.policy.ResourceMap.{ResourceMap}
use Rattle.rg_policy.specs.declared.request.Element.{Element}
use Rattle.rg_resmatch.specs.Tests.{is_hit, meets, names_level, value_at}
use Rattle.rg_standing.specs.declared.reason.Miss.{Miss}
use Rattle.rg_standing.specs.declared.reason.Miss.TheVariants.{Level as Unmatched, Beyond, Apart}

-- a written value stands for v, or its twin does where the resource is recursive
abbrev pub value_stands : Level → Bool → List ℕ → List ℕ → List ℕ → Bool
value_stands level recursive user v t = stands level.fold user (atoms_of level.wild t) v
    || (recursive && stands level.fold user (twin (atoms_of level.wild t)) v)

-- the level is named by what is asked about, and hit
abbrev pub level_hit : ServiceDef → List ℕ → List Element → PolicyResource → Bool
level_hit def user elements r = option_map_or (λ v. is_hit (level_of def r.level) r user v) (value_at elements r.level) false

-- some level of the map is
abbrev pub map_near : ServiceDef → List ℕ → List Element → ResourceMap → Bool
map_near def user elements m = list_any (level_hit def user elements) m.levels.items

-- some level of some map is
abbrev pub is_near : ServiceDef → List ℕ → List Element → List ResourceMap → Bool
is_near def user elements maps = list_any (map_near def user elements) maps

-- the level doesn't match what is asked about
abbrev pub is_unmatched : ServiceDef → List ℕ → List Element → PolicyResource → Bool
is_unmatched def user elements r = not (meets def user r (value_at elements r.level))

-- the first level that doesn't match
abbrev pub first_unmatched : ServiceDef → List ℕ → List Element → List PolicyResource → Option PolicyResource
first_unmatched def user elements resources = find (is_unmatched def user elements) resources

-- the first element on a level that the map lacks
abbrev pub first_beyond : List PolicyResource → List Element → Option Element
first_beyond resources elements = find (λ (e : Element). not (names_level resources e.level)) elements

abbrev pub miss_by : Option PolicyResource → Option Element → Miss
miss_by (Some r) beyond = Unmatched r.level
miss_by None (Some e) = Beyond e.level
miss_by None None = Apart

-- what keeps a map out that doesn't lie on what is asked about
abbrev pub miss_of : ServiceDef → List ℕ → List Element → ResourceMap → Miss
miss_of def user elements m = miss_by (first_unmatched def user elements m.levels.items) (first_beyond m.levels.items elements)
