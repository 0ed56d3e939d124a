use Rattle.std.proofs.Common.{◌≡◌, drop, take, map, true}
use Rattle.std.specs.List.{list_all}
use Rattle.std.specs.Str.{chars}
use Rattle.rg_zones.specs.Candidates.{AreFiled, maps_of}
use Rattle.rg_zone_rules.specs.Overlap.{zone_patterns, zone_scalars}
use Rattle.rg_zone_rules.specs.Rules.{all_maps_fit}
use Rattle.rg_zones.proofs.overlap.file_zones.Given as goal

abbrev pub invariant-loop-zone : goal.invariant-loop-zone
invariant-loop-zone l = record {
  so_far : maps_of l.filed.items ≡ map (zone_patterns (chars l.service) l.def) (take l.zone-index l.zones);
  scalars : list_all zone_scalars (maps_of l.filed.items) ≡ true;
  filed : AreFiled l.paths l.filed.items;
  fit : all_maps_fit (chars l.service) l.def (drop l.zone-index l.zones) ≡ true;
}
