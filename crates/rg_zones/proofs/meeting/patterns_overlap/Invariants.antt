use Rattle.std.proofs.Common.{◌≡◌, drop}
use Rattle.rg_zone_rules.specs.Overlap.{patterns_overlap}
use Rattle.rg_zones.proofs.meeting.patterns_overlap.Given as goal

abbrev pub invariant-loop-pattern : goal.invariant-loop-pattern
invariant-loop-pattern l = patterns_overlap l.fold (drop l.pattern-index l.patterns) l.others ≡ patterns_overlap l.fold l.patterns l.others
