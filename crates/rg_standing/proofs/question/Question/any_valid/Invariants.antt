use Rattle.std.proofs.Common.{◌≡◌, drop}
use Rattle.std.specs.List.{list_any}
use Rattle.rg_evalr.specs.Effects.{is_valid}
use Rattle.rg_standing.proofs.question.Question.any_valid.Given as goal

-- the rest decides
abbrev pub invariant-loop-schedule : goal.invariant-loop-schedule
invariant-loop-schedule l = list_any (is_valid l.self.frame l.self.context) (drop l.schedule-index l.schedules)
    ≡ list_any (is_valid l.self.frame l.self.context) l.schedules
