use Rattle.rg_delegate.specs.Filing.{HoldsFirst}
use Rattle.rg_delegate.proofs.filing.file.Given as goal

abbrev pub invariant-loop-place : goal.invariant-loop-place
invariant-loop-place l = HoldsFirst l.fold l.patterns l.trie l.place
