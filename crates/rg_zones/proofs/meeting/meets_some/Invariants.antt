use Rattle.std.proofs.Common.{◌≡◌, drop}
use Rattle.std.specs.List.{list_any}
use Rattle.rg_zone_rules.specs.Overlap.{patterns_meet}
use Rattle.rg_zones.proofs.meeting.meets_some.Given as goal

abbrev pub invariant-loop-other : goal.invariant-loop-other
invariant-loop-other l = list_any (patterns_meet l.paths l.map) (drop l.other-index l.others) ≡ list_any (patterns_meet l.paths l.map) l.others
