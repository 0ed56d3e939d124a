use Rattle.std.proofs.Common.{◌≡◌, drop}
use Rattle.rg_policy.specs.Maps.{maps_of}
use Rattle.rg_same_resources.specs.Twins.{each_map_in}
use Rattle.rg_same_resources.proofs.twins.all_in.Given as goal

-- the rest decides
abbrev pub invariant-loop-map : goal.invariant-loop-map
invariant-loop-map l = each_map_in (drop l.map-index l.maps) (maps_of l.policy) ≡ each_map_in l.maps (maps_of l.policy)
