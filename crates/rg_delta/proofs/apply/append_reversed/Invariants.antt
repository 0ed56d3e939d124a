use Rattle.std.proofs.Common.{◌≡◌, ◌++◌, length, reverse}
use Rattle.rg_delta.proofs.apply.append_reversed.Given as goal

-- what is left comes after what was added
abbrev pub invariant-loop-item : goal.invariant-loop-item
invariant-loop-item g l = l.list.items ++ reverse l.left.items ≡ l.initial.list.items ++ reverse l.fn.last_first.items

abbrev pub decreases-loop-item : goal.decreases-loop-item
decreases-loop-item g l = length l.left.items
