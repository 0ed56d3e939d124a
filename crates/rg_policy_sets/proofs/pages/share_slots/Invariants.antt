use Rattle.std.proofs.Common.{◌≡◌, ◌++◌, take}
use Rattle.rg_policy_sets.proofs.pages.share_slots.Given as goal

-- the slots so far
abbrev pub invariant-loop-slot : goal.invariant-loop-slot
invariant-loop-slot g l = l.tail.items ≡ l.fn.tail.items ++ take l.slot-index l.slots
