use Rattle.std.proofs.Common.{◌≡◌, ◌++◌, take}
use Rattle.rg_policy_sets.specs.Kept.{policies_in}
use Rattle.rg_policy_sets.proofs.policies.add_policies.Given as goal

-- those in the slots before this one have come
abbrev pub invariant-loop-slot : goal.invariant-loop-slot
invariant-loop-slot l = l.list.items ≡ l.fn.list.items ++ policies_in (take l.slot-index l.slots)
