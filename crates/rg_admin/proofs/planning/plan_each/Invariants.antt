use Rattle.std.proofs.Common.{◌≡◌, ◌++◌, map, take, drop}
use Rattle.rg_admin.specs.Held.{logs_of, plan_for}
use Rattle.rg_admin.proofs.planning.plan_each.Given as goal

-- those before the index are planned, the others are as they were
abbrev pub invariant-loop-log : goal.invariant-loop-log
invariant-loop-log l = (l.log-items ≡ map (plan_for l.state l.command) (take l.log-index l.fn.logs.items) ++ drop l.log-index l.fn.logs.items)
    × (logs_of l.log-items ≡ logs_of l.fn.logs.items)
