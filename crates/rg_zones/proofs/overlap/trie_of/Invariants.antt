use Rattle.rg_zones.specs.Candidates.{HoldsFirst}
use Rattle.rg_zones.proofs.overlap.trie_of.Given as goal

abbrev pub invariant-loop-place : goal.invariant-loop-place
invariant-loop-place l = HoldsFirst l.trie l.zones l.place
