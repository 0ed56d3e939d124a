use Rattle.std.proofs.Common.{◌≡◌, ◌++◌, drop, map, true}
use Rattle.std.specs.List.{list_all}
use Rattle.rg_zone_rules.specs.Overlap.{map_patterns, zone_scalars}
use Rattle.rg_zone_rules.specs.Rules.{map_values_fit}
use Rattle.rg_zones.proofs.zone_patterns.with_entry.Given as goal

abbrev pub invariant-loop-map : goal.invariant-loop-map
invariant-loop-map l = record {
  so_far : l.maps.items ++ map (map_patterns l.def) (drop l.map-index l.entry) ≡ l.fn.maps.items ++ map (map_patterns l.def) l.entry;
  scalars : zone_scalars l.maps.items ≡ zone_scalars l.fn.maps.items;
  fit : list_all map_values_fit (drop l.map-index l.entry) ≡ true;
}
