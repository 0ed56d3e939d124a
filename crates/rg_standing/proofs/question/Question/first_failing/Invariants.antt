use Rattle.std.proofs.Common.{◌≡◌, drop}
use Rattle.rg_standing.specs.Standing.{first_failing}
use Rattle.rg_standing.proofs.question.Question.first_failing.Given as goal

-- what is found is found in the rest
abbrev pub invariant-loop-condition : goal.invariant-loop-condition
invariant-loop-condition l = first_failing l.self (drop l.condition-index l.conditions) ≡ first_failing l.self l.conditions
