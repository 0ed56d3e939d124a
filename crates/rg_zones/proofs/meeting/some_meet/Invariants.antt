use Rattle.std.proofs.Common.{◌≡◌, drop}
use Rattle.rg_zone_rules.specs.Overlap.{some_meet}
use Rattle.rg_zones.proofs.meeting.some_meet.Given as goal

abbrev pub invariant-loop-map : goal.invariant-loop-map
invariant-loop-map l = some_meet l.paths (drop l.map-index l.maps) l.others ≡ some_meet l.paths l.maps l.others
