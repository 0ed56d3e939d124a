use Rattle.std.proofs.Common.{◌≡◌, drop}
use Rattle.rg_same_resources.specs.Twins.{has_map}
use Rattle.rg_same_resources.proofs.twins.among_maps.Given as goal

-- the rest decides
abbrev pub invariant-loop-map : goal.invariant-loop-map
invariant-loop-map l = has_map (drop l.map-index l.maps) l.resources ≡ has_map l.maps l.resources
