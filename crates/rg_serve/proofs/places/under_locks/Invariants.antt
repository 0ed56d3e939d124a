use Rattle.std.proofs.Common.{◌≡◌, ◌+◌, length}
use Rattle.rg_serve.proofs.places.under_locks.Given as goal

abbrev pub invariant-loop-x : goal.invariant-loop-x
invariant-loop-x g l = length l.locks.items + length l.all.items ≡ length l.fn.all.items

abbrev pub decreases-loop-x : goal.decreases-loop-x
decreases-loop-x g l = length l.all.items
