use Rattle.std.proofs.Common.{◌≡◌, length}
use Rattle.rg_pattern.specs.Atoms.{has_user}
use Rattle.rg_pattern.proofs.atoms.Pattern.has_user.Given as goal

abbrev pub invariant-loop-atom : goal.invariant-loop-atom
invariant-loop-atom l = has_user l.rest ≡ has_user l.self

abbrev pub decreases-loop-atom : goal.decreases-loop-atom
decreases-loop-atom l = length l.rest
