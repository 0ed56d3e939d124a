-- What a map of zones is seen as: what it was built from.
use Rattle.std.specs.Prelude.{ℕ, List}
use Rattle.rg_defs.specs.declared.service_def.ServiceDef.{ServiceDef}
use Rattle.rg_zone_rules.specs.declared.row.ZoneRow.{ZoneRow}

pub record Zoning : Type 0 where
  pub zones : List ZoneRow
  pub service : List ℕ
  pub def : ServiceDef
