-- For proofs alone: where a zone meets another.
use Rattle.std.specs.Prelude.{Bool, false}
use Rattle.std.specs.List.{find, list_any}
use Rattle.std.specs.Option.{option_map_or}
use Rattle.rg_zone_rules.specs.Zones.{is_for}
use Rattle.rg_zone_rules.specs.declared.row.ZoneRow.{ZoneRow}
use Rattle.rg_zone_rules.specs.declared.row.ZoneService.{ZoneService}
use Rattle.rg_zones.specs.Entries.{entries_overlap}
use Rattle.rg_cmd.specs.Lookups.{def_of}
use Rattle.rg_cmd.specs.declared.state.State.{State}
use Rattle.rg_validate.specs.Definitions.{under}

-- the zone lists the service of the other's entry, and overlaps it there
abbrev pub meets_entry : State → ZoneRow → ZoneService → Bool
meets_entry s zone f = option_map_or (λ (e : ZoneService). under (def_of s f.service) (λ def. entries_overlap def e f)) (find (is_for f.service) zone.services.items) false

-- it overlaps the other for a service that both list
abbrev pub meets_zone : State → ZoneRow → ZoneRow → Bool
meets_zone s zone other = list_any (meets_entry s zone) other.services.items
