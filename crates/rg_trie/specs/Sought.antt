-- Places among the pairs, for the proofs of the searches.
use Rattle.std.specs.Prelude.{◌≡◌, ℕ, ◌≤◌, ◌+◌, ◌-◌, Bool, true, false, List, [], ◌∷◌, ◌++◌, length, not, slice_get}
use Rattle.std.specs.Cmp.Lexicographic.{slice_cmp}
use Rattle.std.specs.List.{All}
use Rattle.std.specs.Option.{option_map_or}
use Rattle.std.specs.Ordering.{nat_cmp, is_lt, is_eq, is_gt}
use Rattle.rg_trie.specs.declared.order.Mark.{Mark}
use Rattle.rg_trie.specs.declared.order.Mark.TheVariants.{Start, At, End}
use Rattle.rg_trie.specs.declared.pair.Held.{Held}
use Rattle.rg_trie.specs.declared.pair.Pair.{Pair}
use Rattle.rg_trie.specs.Pairs.{Below, pair_order}
use Rattle.rg_trie.specs.Blocks.{AreCounted, IsRising, IsSized, block_limit, pairs_of}

-- the pair comes before a mark: the first place of a key, the place of an entry under it, or the place behind all its pairs
abbrev pub before : List ℕ → Mark → Pair → Bool
before text Start p = is_lt (slice_cmp nat_cmp p.key text)
before text (At e) p = is_lt (pair_order p (record { key = text; entry = e }))
before text End p = not (is_gt (slice_cmp nat_cmp p.key text))

-- the last element passes, where there is one
abbrev pub ends_passing : {X : Type 0} → (X → Bool) → List X → Bool
ends_passing test xs = option_map_or test (slice_get xs (length xs - 1)) true

-- the first pair is p
abbrev pub first_is : Pair → List Pair → Bool
first_is p [] = false
first_is p (q ∷ qs) = is_eq (pair_order q p)

-- the first pair doesn't come before those with the key
abbrev pub is_past : List ℕ → List Pair → Bool
is_past key [] = false
is_past key (p ∷ ps) = not (before key Start p)

-- all pairs, cut where p stands or would stand: whole blocks, both parts of one block, and whole blocks
pub record IsCut (p : Pair) (all : List Pair) (first : List Held) (front back : List Pair) (last : List Held) : Type 0 where
  pub whole : all ≡ (pairs_of first ++ front) ++ (back ++ pairs_of last)
  pub rising : IsRising Below all
  pub passed : All (λ q. is_lt (pair_order q p) ≡ true) (pairs_of first ++ front)
  pub left : All (λ q. is_lt (pair_order q p) ≡ false) (back ++ pairs_of last)
  pub sized : All IsSized first × All IsSized last
  pub limited : length front + length back ≤ block_limit
  pub end : length back ≡ 0 → last ≡ []

-- what is left of a walk: pairs in order, of which the blocks are counted
pub record IsWalking (back : List Pair) (after : List Held) : Type 0 where
  pub rising : IsRising Below (back ++ pairs_of after)
  pub sized : All IsSized after
  pub counted : AreCounted 0 after
