use Rattle.std.proofs.Common.{◌≡◌, ◌++◌, take}
use Rattle.rg_trie.proofs.blocks.copy_pairs.Given as goal

-- what was copied so far
abbrev pub invariant-loop-pair : goal.invariant-loop-pair
invariant-loop-pair l = l.held.items ≡ l.fn.held.items ++ take l.pair-index l.pairs
