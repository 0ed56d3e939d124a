-- For proofs alone: what is seen of a trie from what it was made from.
use Rattle.std.specs.Prelude.{List, []}
use Rattle.std.specs.Str.{chars}
use Rattle.rg_trie.specs.declared.origin.Origin.{Origin}
use Rattle.rg_trie.specs.declared.origin.Origin.TheVariants.{Empty, With, Without}
use Rattle.rg_trie.specs.declared.pair.Pair.{Pair}
use Rattle.rg_trie.specs.Edited.{with_pair, without_pair}

-- no pairs, or those of another trie after an edit
abbrev pub seen_from : Origin → List Pair
seen_from Empty = []
seen_from (With seen key entry) = with_pair (record { key = chars key.now; entry = entry }) seen.now.value
seen_from (Without seen key entry) = without_pair (record { key = chars key.now; entry = entry }) seen.now.value
