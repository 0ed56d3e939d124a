use Rattle.std.proofs.Common.{◌≡◌, ◌++◌, map, take, drop}
use Rattle.rg_admin.specs.Held.{settled}
use Rattle.rg_admin.proofs.planning.settle_each.Given as goal

-- those before the index are settled, the others are as they were
abbrev pub invariant-loop-log : goal.invariant-loop-log
invariant-loop-log l = l.log-items ≡ map settled (take l.log-index l.fn.logs.items) ++ drop l.log-index l.fn.logs.items
