use Rattle.std.proofs.Common.{◌≡◌, drop}
use Rattle.std.specs.List.{list_all}
use Rattle.rg_validate.specs.Valid.{zone_valid}
use Rattle.rg_validate.proofs.valid.zones_valid.Given as goal

-- the rest decides
abbrev pub invariant-loop-zone : goal.invariant-loop-zone
invariant-loop-zone l = list_all (zone_valid l.state) (drop l.zone-index l.state.zones.items) ≡ list_all (zone_valid l.state) l.state.zones.items
