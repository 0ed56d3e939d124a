use Rattle.std.proofs.Common.{◌≡◌, ◌++◌, ◌||◌, not, drop, map, true}
use Rattle.std.specs.List.{flat_map, list_all}
use Rattle.std.specs.Str.{chars}
use Rattle.rg_zone_rules.specs.declared.row.ZoneService.{ZoneService}
use Rattle.rg_zone_rules.specs.Overlap.{map_patterns, zone_patterns, zone_scalars}
use Rattle.rg_zone_rules.specs.Rules.{entry_values_fit}
use Rattle.rg_zone_rules.specs.Zones.{entry_maps, is_for}
use Rattle.rg_zones.proofs.zone_patterns.CompiledZone.compile.Given as goal

abbrev pub invariant-loop-entry : goal.invariant-loop-entry
invariant-loop-entry l = record {
  so_far : l.maps.items ++ map (map_patterns l.def) (flat_map (entry_maps (chars l.service)) (drop l.entry-index l.zone.services.items)) ≡ zone_patterns (chars l.service) l.def l.zone;
  scalars : zone_scalars l.maps.items ≡ true;
  fit : list_all (λ (s : ZoneService). not (is_for (chars l.service) s) || entry_values_fit s) (drop l.entry-index l.zone.services.items) ≡ true;
}
