use Rattle.std.proofs.Common.{◌≡◌, drop, true}
use Rattle.std.specs.List.{list_any}
use Rattle.std.specs.Str.{chars}
use Rattle.rg_zone_rules.specs.declared.row.ZoneRow.{ZoneRow}
use Rattle.rg_zone_rules.specs.Overlap.{some_meet, zone_patterns}
use Rattle.rg_zone_rules.specs.Rules.{all_maps_fit}
use Rattle.rg_zones.proofs.overlap.meets_any.Given as goal

abbrev pub invariant-loop-other : goal.invariant-loop-other
invariant-loop-other l = record {
  rest : list_any (λ (other : ZoneRow). some_meet l.paths l.zone (zone_patterns (chars l.service) l.def other)) (drop l.other-index l.others)
      ≡ list_any (λ (other : ZoneRow). some_meet l.paths l.zone (zone_patterns (chars l.service) l.def other)) l.others;
  fit : all_maps_fit (chars l.service) l.def (drop l.other-index l.others) ≡ true;
}
