use Rattle.std.proofs.Common.{◌≡◌, length}
use Rattle.rg_trie.specs.Hashed.{IsFrom, entries_left}
use Rattle.rg_trie.proofs.walk.first_left.Given as goal

-- what is left gives what was left at first
abbrev pub invariant-prefixes : goal.invariant-prefixes
invariant-prefixes l = IsFrom l.prefix.seen l.left.back.now l.left.after.now × (entries_left l.tree l.prefix l.left.back.now l.left.after.now ≡ entries_left l.tree l.fn.prefix l.fn.rest.back.now l.fn.rest.after.now)

abbrev pub decreases-prefixes : goal.decreases-prefixes
decreases-prefixes l = length l.prefix.rest
