use Rattle.std.proofs.Common.{◌≡◌, ◌+◌, [], length}
use Rattle.std.specs.Str.{chars}
use Rattle.rg_trie.specs.Hashed.{entries_from}
use Rattle.rg_trie.specs.Pairs.{folded}
use Rattle.rg_trie.proofs.counting.count_under.Given as goal

-- what was counted, and what this prefix and the longer ones give, are what all give
abbrev pub invariant-prefixes : goal.invariant-prefixes
invariant-prefixes l = length (entries_from l.tree [] (folded l.fold (chars l.value))) ≡ l.count + length (entries_from l.tree l.prefix.seen l.prefix.rest)

abbrev pub decreases-prefixes : goal.decreases-prefixes
decreases-prefixes l = length l.prefix.rest
