use Rattle.std.proofs.Common.{◌≡◌, drop}
use Rattle.rg_same_resources.specs.Prints.{with_levels}
use Rattle.rg_same_resources.proofs.prints.take_levels.Given as goal

-- the rest decides
abbrev pub invariant-loop-resource : goal.invariant-loop-resource
invariant-loop-resource l = with_levels l.marks (drop l.resource-index l.levels) ≡ with_levels l.fn.marks l.levels
