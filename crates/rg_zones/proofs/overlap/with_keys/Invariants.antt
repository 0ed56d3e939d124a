use Rattle.std.proofs.Common.{ℕ, List, Contains, take}
use Rattle.rg_trie.specs.declared.pair.Pair.{Pair}
use Rattle.rg_zones.specs.Candidates.{filed_as}
use Rattle.rg_zones.proofs.overlap.with_keys.Given as goal

abbrev pub invariant-loop-key : goal.invariant-loop-key
invariant-loop-key l = record {
  kept : (p : Pair) → Contains l.fn.trie p → Contains l.trie p;
  filed : (key : List ℕ) → Contains (take l.key-index l.keys) key → Contains l.trie (filed_as key l.place);
}
