use Rattle.std.proofs.Common.{◌≡◌, drop}
use Rattle.std.specs.List.{list_all}
use Rattle.rg_validate.specs.Definitions.{zones_suit}
use Rattle.rg_validate.proofs.definitions.all_zones_suit.Given as goal

-- the rest decides
abbrev pub invariant-loop-service : goal.invariant-loop-service
invariant-loop-service l = list_all (zones_suit l.def l.zones) (drop l.service-index l.services) ≡ list_all (zones_suit l.def l.zones) l.services
