use Rattle.std.proofs.Common.{◌≡◌}
use Rattle.rg_policy_sets.proofs.pages.Slots.of.Given as goal

-- the slots so far
abbrev pub invariant-loop-slot : goal.invariant-loop-slot
invariant-loop-slot g l = l.paging ≡ l.yielded
