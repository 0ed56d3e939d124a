use Rattle.std.proofs.Common.{take}
use Rattle.rg_trie.specs.Blocks.{Grows, pairs_of}
use Rattle.rg_trie.proofs.blocks.share.Given as goal

-- what was shared so far
abbrev pub invariant-loop-held : goal.invariant-loop-held
invariant-loop-held l = Grows (pairs_of (take l.held-index l.blocks)) l.fn.growing l.growing
