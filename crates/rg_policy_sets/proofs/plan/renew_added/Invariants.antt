use Rattle.std.proofs.Common.{◌≡◌, ◌++◌, map, take, drop}
use Rattle.rg_policy_sets.specs.Plan.{or_new}
use Rattle.rg_policy_sets.proofs.plan.renew_added.Given as goal

-- those before the index are done, the others are as they were
abbrev pub invariant-loop-made : goal.invariant-loop-made
invariant-loop-made g l = l.made-items ≡ map (or_new g.X.Identified.id_of l.item) (take l.made-index l.fn.added.items) ++ drop l.made-index l.fn.added.items
