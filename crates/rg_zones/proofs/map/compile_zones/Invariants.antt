use Rattle.std.proofs.Common.{◌≡◌, List, true, drop, take, map}
use Rattle.std.specs.Str.{chars}
use Rattle.rg_policy.specs.declared.request.Element.{Element}
use Rattle.rg_zones.specs.Matched.{is_matched, rows_of}
use Rattle.rg_zone_rules.specs.Rules.{all_maps_fit}
use Rattle.rg_zone_rules.specs.Zones.{in_zone}
use Rattle.rg_zones.proofs.map.compile_zones.Given as goal

-- the zones so far, and those to come fit
abbrev pub invariant-loop-zone : goal.invariant-loop-zone
invariant-loop-zone l = record {
  rows : rows_of l.compiled.items ≡ take l.zone-index l.zones;
  made : (elements : List Element) → map (is_matched elements) l.compiled.items ≡ map (in_zone (chars l.service) l.def elements) (take l.zone-index l.zones);
  left : all_maps_fit (chars l.service) l.def (drop l.zone-index l.zones) ≡ true;
}
