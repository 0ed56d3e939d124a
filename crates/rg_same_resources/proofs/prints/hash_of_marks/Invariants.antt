use Rattle.std.proofs.Common.{◌≡◌, drop}
use Rattle.rg_same_resources.specs.Prints.{hash_from}
use Rattle.rg_same_resources.proofs.prints.hash_of_marks.Given as goal

-- the rest decides
abbrev pub invariant-loop-mark : goal.invariant-loop-mark
invariant-loop-mark l = hash_from l.hash (drop l.mark-index l.marks) ≡ hash_from 1 l.marks
