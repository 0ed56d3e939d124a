use Rattle.std.proofs.Common.{◌≡◌, ◌++◌, drop, map}
use Rattle.rg_zone_rules.specs.Zones.{resource_map}
use Rattle.rg_zones.proofs.resources.with_maps.Given as goal

abbrev pub invariant-loop-levels : goal.invariant-loop-levels
invariant-loop-levels l = l.maps.items ++ map (resource_map l.def) (drop l.levels-index l.written) ≡ l.fn.maps.items ++ map (resource_map l.def) l.written
