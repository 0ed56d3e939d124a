use Rattle.std.proofs.Common.{◌≡◌, drop}
use Rattle.rg_same_resources.specs.Twins.{same_schedules}
use Rattle.rg_same_resources.proofs.twins.same_schedules.Given as goal

-- the rest decides
abbrev pub invariant-loop-schedule : goal.invariant-loop-schedule
invariant-loop-schedule l = same_schedules (drop l.schedule-index l.schedules) l.rest ≡ same_schedules l.schedules l.others
