use Rattle.std.proofs.Common.{◌≡◌, take}
use Rattle.rg_base.specs.Listed.{listed}
use Rattle.rg_zone_rules.specs.Zones.{zone_resources}
use Rattle.rg_zones.proofs.resources.zone_resources.Given as goal

abbrev pub invariant-loop-level : goal.invariant-loop-level
invariant-loop-level l = l.resources ≡ listed (zone_resources l.def (take l.level-index l.levels))
