use Rattle.std.proofs.Common.{◌≡◌, ◌++◌, drop}
use Rattle.rg_zone_rules.specs.Overlap.{needed_names}
use Rattle.rg_zones.proofs.zone_patterns.needed_names.Given as goal

abbrev pub invariant-loop-level : goal.invariant-loop-level
invariant-loop-level l = l.names.items ++ needed_names (drop l.level-index l.levels) ≡ needed_names l.levels
