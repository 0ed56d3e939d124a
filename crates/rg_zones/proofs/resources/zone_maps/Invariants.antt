use Rattle.std.proofs.Common.{◌≡◌, ◌++◌, drop, map}
use Rattle.std.specs.List.{flat_map}
use Rattle.std.specs.Str.{chars}
use Rattle.rg_zone_rules.specs.Zones.{entry_maps, resource_map, zone_maps}
use Rattle.rg_zones.proofs.resources.zone_maps.Given as goal

abbrev pub invariant-loop-entry : goal.invariant-loop-entry
invariant-loop-entry l = l.maps.items ++ map (resource_map l.def) (flat_map (entry_maps (chars l.service)) (drop l.entry-index l.zone.services.items)) ≡ zone_maps (chars l.service) l.def l.zone
