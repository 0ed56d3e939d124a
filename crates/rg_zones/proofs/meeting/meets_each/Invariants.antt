use Rattle.std.proofs.Common.{◌≡◌, drop}
use Rattle.std.specs.List.{list_all}
use Rattle.rg_zone_rules.specs.Overlap.{levels_meet}
use Rattle.rg_zones.proofs.meeting.meets_each.Given as goal

abbrev pub invariant-loop-other : goal.invariant-loop-other
invariant-loop-other l = list_all (levels_meet l.level) (drop l.other-index l.others) ≡ list_all (levels_meet l.level) l.others
