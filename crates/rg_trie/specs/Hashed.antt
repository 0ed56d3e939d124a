-- How a trie finds its pairs: by the hashes of their keys, and by the lengths that keys have.
use Rattle.std.specs.Prelude.{◌≡◌, ℕ, ◌≤◌, Bool, true, false, nat_lt, List, [], ◌∷◌, ◌++◌, length, slice_get, unwrap_or, if◌then◌else◌}
use Rattle.std.specs.List.{All}
use Rattle.std.specs.Cmp.Lexicographic.{slice_cmp}
use Rattle.std.specs.Ordering.{nat_cmp, is_lt}
use Rattle.rg_tree.specs.declared.tree.Tree.{Tree}
use Rattle.rg_tree.specs.Hashes.{hash_of, state_after}
use Rattle.rg_tree.specs.Trees.{at}
use Rattle.rg_trie.specs.declared.pair.Filed.{Filed}
use Rattle.rg_trie.specs.declared.pair.Held.{Held}
use Rattle.rg_trie.specs.declared.pair.Pair.{Pair}
use Rattle.rg_trie.specs.Blocks.{IsRising, pairs_of}
use Rattle.rg_trie.specs.Keyed.{entries_of_key}
use Rattle.rg_trie.specs.Pairs.{Below, folded}
use Rattle.rg_trie.specs.Sought.{IsWalking}

-- the pairs of which the keys have the hash
abbrev pub pairs_at : Tree (List Pair) → ℕ → List Pair
pairs_at tree hash = unwrap_or (at hash tree) []

-- the entries under the key
abbrev pub entries_at : Tree (List Pair) → List ℕ → List Filed
entries_at tree key = entries_of_key key (pairs_at tree (hash_of false key))

-- the entries under the prefixes that are longer than the one that was seen
abbrev pub entries_beyond : Tree (List Pair) → List ℕ → List ℕ → List Filed
entries_beyond tree seen [] = []
entries_beyond tree seen (c ∷ rest) = entries_at tree (seen ++ c ∷ []) ++ entries_beyond tree (seen ++ c ∷ []) rest

-- the entries under a prefix and all longer ones, of which these follow what was seen
abbrev pub entries_from : Tree (List Pair) → List ℕ → List ℕ → List Filed
entries_from tree seen rest = entries_at tree seen ++ entries_beyond tree seen rest

-- from how many characters on lengths aren't told apart
abbrev pub length_limit : ℕ
length_limit = 64

abbrev pub capped : ℕ → ℕ
capped n = if nat_lt n length_limit then n else length_limit

-- whether a key may have so many characters; one that is longer than is noted may be there always
abbrev pub may_occur : List Bool → ℕ → Bool
may_occur occurs n = if nat_lt n length_limit then unwrap_or (slice_get occurs n) true else true

-- where a key can't have so many characters, nothing is there
abbrev pub Covers : List Bool → Tree (List Pair) → Type 0
Covers occurs tree = (key : List ℕ) → may_occur occurs (length key) ≡ false → entries_at tree key ≡ []

-- the tree holds these pairs, which rise, under the hashes of their keys
pub record IsFiled (tree : Tree (List Pair)) (occurs : List Bool) (total : ℕ) (pairs : List Pair) : Type 0 where
  pub rising : IsRising Below pairs
  pub held : (key : List ℕ) → entries_at tree key ≡ entries_of_key key pairs
  pub covered : Covers occurs tree
  pub bounded : length pairs ≤ total

-- a text in two parts, which are folded where that is asked
pub record Parted : Type 0 where
  pub seen : List ℕ
  pub rest : List ℕ

-- a prefix of the value with its length and its state, and what follows it
pub record IsParted (fold : Bool) (value seen rest : List ℕ) (count state : ℕ) : Type 0 where
  pub whole : value ≡ seen ++ rest
  pub counted : count ≡ capped (length seen)
  pub hashed : state ≡ state_after false 0 (folded fold seen)

-- what a walk still gives, of which these pairs were found for the prefix
abbrev pub entries_left : Tree (List Pair) → Parted → List Pair → List Held → List Filed
entries_left tree prefix back after = entries_of_key prefix.seen (back ++ pairs_of after) ++ entries_beyond tree prefix.seen prefix.rest

-- pairs in order of which the keys don't come before this one; they are countable
pub record IsFrom (key : List ℕ) (back : List Pair) (after : List Held) : Type 0 where
  pub walking : IsWalking back after
  pub from : All (λ (p : Pair). is_lt (slice_cmp nat_cmp p.key key) ≡ false) (back ++ pairs_of after)
