-- Whether what two zones list for one service overlaps.
use Rattle.std.specs.Prelude.{Bool}
use Rattle.std.specs.List.{list_any}
use Rattle.rg_defs.specs.declared.service_def.ServiceDef.{ServiceDef}
use Rattle.rg_zone_rules.specs.Overlap.{maps_overlap}
use Rattle.rg_zone_rules.specs.declared.row.ZoneService.{ZoneService}

-- some map of the one entry overlaps some map of the other
abbrev pub entries_overlap : ServiceDef → ZoneService → ZoneService → Bool
entries_overlap def a b = list_any (λ m. list_any (maps_overlap def m) b.resources.items) a.resources.items
