-- How a trie holds its pairs.
use Rattle.std.specs.Prelude.{◌≡◌, ℕ, ◌+◌, ◌<◌, ◌≤◌, List, [], ◌∷◌, ◌++◌, length}
use Rattle.std.specs.Arc.{arc_value}
use Rattle.std.specs.List.{All, flat_map}
use Rattle.std.specs.declared.sync.Arc.{Arc}
use Rattle.rg_trie.specs.declared.blocks.Growing.{Growing}
use Rattle.rg_trie.specs.declared.pair.Block.{Block}
use Rattle.rg_trie.specs.declared.pair.Held.{Held}
use Rattle.rg_trie.specs.declared.pair.Pair.{Pair}
use Rattle.rg_trie.specs.Pairs.{Below}

-- each element stands in the relation to all later ones; `AllPairs` by recursion
abbrev pub IsRising : {X : Type 0} → (X → X → Type 0) → List X → Type 0
IsRising R [] = Unit {0}
IsRising R (x ∷ xs) = All (R x) xs × IsRising R xs

-- how many pairs a block has at most
abbrev pub block_limit : ℕ
block_limit = 64

-- the pairs of a shared block
abbrev pub shared_pairs : {Z : Type 0} → Arc Block Z → List Pair
shared_pairs a = (arc_value a).pairs.items

abbrev pub block_pairs : Held → List Pair
block_pairs h = shared_pairs h.block

-- all pairs, block by block
abbrev pub pairs_of : List Held → List Pair
pairs_of blocks = flat_map block_pairs blocks

-- there are pairs, and no more than a block may have
pub record HasSize (pairs : List Pair) : Type 0 where
  pub filled : 0 < length pairs
  pub limited : length pairs ≤ block_limit

abbrev pub IsSized : Held → Type 0
IsSized h = HasSize (block_pairs h)

-- how many pairs stand in each block and after it, of which n stand after them all
abbrev pub AreCounted : ℕ → List Held → Type 0
AreCounted n [] = Unit {0}
AreCounted n (h ∷ hs) = (h.left ≡ length (pairs_of (h ∷ hs)) + n) × AreCounted n hs

-- the blocks are sized and counted, and hold their pairs in order
pub record AreInOrder (blocks : List Held) : Type 0 where
  pub ordered : IsRising Below (pairs_of blocks)
  pub sized : All IsSized blocks
  pub counted : AreCounted 0 blocks

-- a list of blocks gets these pairs at its end
pub record Grows (pairs : List Pair) (old new : Growing) : Type 0 where
  pub more : pairs_of new.blocks.items ≡ pairs_of old.blocks.items ++ pairs
  pub fewer : old.lacking ≡ length pairs + new.lacking
  pub sized : All IsSized old.blocks.items → All IsSized new.blocks.items
  pub counted : AreCounted old.lacking old.blocks.items → AreCounted new.lacking new.blocks.items
