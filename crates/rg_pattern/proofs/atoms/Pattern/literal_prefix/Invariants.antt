use Rattle.std.proofs.Common.{◌≡◌, ◌++◌, length}
use Rattle.rg_pattern.specs.Atoms.{literal_prefix}
use Rattle.rg_pattern.proofs.atoms.Pattern.literal_prefix.Given as goal

abbrev pub invariant-loop-c : goal.invariant-loop-c
invariant-loop-c l = l.text ++ literal_prefix l.fold l.rest ≡ literal_prefix l.fold l.self

abbrev pub decreases-loop-c : goal.decreases-loop-c
decreases-loop-c l = length l.rest
