use Rattle.std.proofs.Common.{◌≡◌, ◌++◌, take}
use Rattle.rg_policy_sets.specs.Kept.{rows_in}
use Rattle.rg_policy_sets.proofs.rows.add_rows.Given as goal

-- those in the slots before this one have come
abbrev pub invariant-loop-slot : goal.invariant-loop-slot
invariant-loop-slot l = l.list.items ≡ l.fn.list.items ++ rows_in (take l.slot-index l.slots)
