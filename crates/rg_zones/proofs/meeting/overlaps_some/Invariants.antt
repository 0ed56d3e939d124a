use Rattle.std.proofs.Common.{◌≡◌, drop}
use Rattle.std.specs.List.{list_any}
use Rattle.rg_pattern.specs.Tests.{overlaps}
use Rattle.rg_zones.proofs.meeting.overlaps_some.Given as goal

abbrev pub invariant-loop-other : goal.invariant-loop-other
invariant-loop-other l = list_any (overlaps l.fold l.pattern) (drop l.other-index l.others) ≡ list_any (overlaps l.fold l.pattern) l.others
