use Rattle.std.proofs.Common.{◌≡◌, drop}
use Rattle.rg_zone_rules.specs.Overlap.{all_meet}
use Rattle.rg_zones.proofs.meeting.all_meet.Given as goal

abbrev pub invariant-loop-level : goal.invariant-loop-level
invariant-loop-level l = all_meet (drop l.level-index l.ones) l.others ≡ all_meet l.ones l.others
