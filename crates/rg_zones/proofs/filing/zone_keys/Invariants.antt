use Rattle.std.proofs.Common.{◌≡◌, ◌++◌, drop}
use Rattle.std.specs.Str.{chars}
use Rattle.rg_zones.specs.Candidates.{zone_keys}
use Rattle.rg_zones.proofs.filing.zone_keys.Given as goal

abbrev pub invariant-loop-map : goal.invariant-loop-map
invariant-loop-map l = l.keys.items ++ zone_keys (chars l.name) (drop l.map-index l.maps) ≡ zone_keys (chars l.name) l.maps
