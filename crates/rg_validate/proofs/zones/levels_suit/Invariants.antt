use Rattle.std.proofs.Common.{◌≡◌, drop}
use Rattle.std.specs.List.{list_all}
use Rattle.rg_cmd.specs.Lookups.{def_of}
use Rattle.rg_zone_rules.specs.Rules.{entry_levels_fit}
use Rattle.rg_zone_rules.specs.declared.row.ZoneService.{ZoneService}
use Rattle.rg_validate.specs.Definitions.{under}
use Rattle.rg_validate.specs.Zones.{zone_levels_suit}
use Rattle.rg_validate.proofs.zones.levels_suit.Given as goal

-- the rest decides
abbrev pub invariant-loop-entry : goal.invariant-loop-entry
invariant-loop-entry l = list_all (λ (e : ZoneService). under (def_of l.defs e.service) (λ def. entry_levels_fit def e)) (drop l.entry-index l.zone.services.items) ≡ zone_levels_suit l.defs l.zone
