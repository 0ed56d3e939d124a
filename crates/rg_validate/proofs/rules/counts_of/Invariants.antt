use Rattle.std.proofs.Common.{take}
use Rattle.rg_same_resources.specs.Counts.{IsCounted}
use Rattle.rg_validate.proofs.rules.counts_of.Given as goal

-- those before this one are counted
abbrev pub invariant-loop-policy : goal.invariant-loop-policy
invariant-loop-policy l = IsCounted l.counts (take l.policy-index l.state.policies.items)
