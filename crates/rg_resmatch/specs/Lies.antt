-- When a level is hit, and when resources lie on those of a request: relations.
use Rattle.std.specs.Prelude.{◌≡◌, ◌⊎◌, ◌<◌, ℕ, Bool, true, false, List, length, Some, None}
use Rattle.std.specs.List.{Contains, slice_get}
use Rattle.rg_defs.specs.declared.service_def.Level.{Level}
use Rattle.rg_defs.specs.declared.service_def.ServiceDef.{ServiceDef}
use Rattle.rg_defs.specs.Paths.{IsPath, level_of}
use Rattle.rg_pattern.specs.Atoms.{twin}
use Rattle.rg_pattern.specs.Reading.{atoms_of}
use Rattle.rg_pattern.specs.Standing.{Stands}
use Rattle.rg_policy.specs.declared.policy.PolicyResource.{PolicyResource}
use Rattle.rg_policy.specs.declared.policy.ResourceMap.{ResourceMap}
use Rattle.rg_policy.specs.declared.request.Element.{Element}
use Rattle.rg_resmatch.specs.declared.reach.Reach.{Reach}
use Rattle.rg_resmatch.specs.declared.reach.Reach.TheVariants.{Exact}
use Rattle.rg_resmatch.specs.Tests.{levels_of, star, value_at}

-- some value of the resource stands for v, or the resource is recursive and some twin does
abbrev pub SomeStands : Level → PolicyResource → List ℕ → List ℕ → Type 0
SomeStands level r user v = ((t : List ℕ) × Contains r.values.items t × Stands level.fold user (atoms_of level.wild t) v)
    ⊎ ((r.recursive ≡ true) × ((t : List ℕ) × Contains r.values.items t × Stands level.fold user (twin (atoms_of level.wild t)) v))

-- the answer is turned round where the resource is excluding
abbrev pub Turned : Bool → Type 0 → Type 0
Turned true P = P → ⊥
Turned false P = P

-- the level is hit by the value v, asked by the user
abbrev pub Hit : Level → PolicyResource → List ℕ → List ℕ → Type 0
Hit level r user v = Turned r.excludes (SomeStands level r user v)

-- a level of this name lies on the path
abbrev pub LiesOn : List Level → List ℕ → List ℕ → Type 0
LiesOn levels path name = (place : ℕ) × (l : Level) × Contains path place × (slice_get levels place ≡ Some l) × (l.name ≡ name)

-- the resources lie on those of a request, asked by the user
pub record Lies (def : ServiceDef) (resources : List PolicyResource) (reach : Reach) (elements : List Element) (user : List ℕ) : Type 0 where
  -- the request names a level
  pub some : 0 < length elements
  -- all levels of both lie on one path
  pub path : (path : List ℕ) × IsPath def.levels.items path × ((name : List ℕ) → Contains (levels_of resources elements) name → LiesOn def.levels.items path name)
  -- a level that both name is hit
  pub both : (r : PolicyResource) (v : List ℕ) → Contains resources r → value_at elements r.level ≡ Some v
      → (l : Level) × (level_of def r.level ≡ Some l) × Hit l r user v
  -- a level that the resources alone name isn't excluding, and has the written value `*`
  pub alone : (r : PolicyResource) → Contains resources r → value_at elements r.level ≡ None → (r.excludes ≡ false) × Contains r.values.items star
  -- where the reach is exact, the request names no level that the resources lack
  pub exact : reach ≡ Exact → (e : Element) → Contains elements e → (r : PolicyResource) × Contains resources r × (r.level ≡ e.level)

-- some map lies on the request's resource
abbrev pub SomeLies : ServiceDef → List ResourceMap → Reach → List Element → List ℕ → Type 0
SomeLies def maps reach elements user = (m : ResourceMap) × Contains maps m × Lies def m.levels.items reach elements user
