use Rattle.std.proofs.Common.{◌≡◌, length}
use Rattle.std.specs.Ordering.{nat_cmp}
use Rattle.std.specs.Cmp.Lexicographic.{slice_cmp}
use Rattle.std.specs.Str.{chars}
use Rattle.rg_trie.specs.Pairs.{folded}
use Rattle.rg_trie.proofs.order.key_order.Given as goal
use denote.Text.{Utf8}
use denote.Shadow.{shadow}

-- what is left compares as the whole does
abbrev pub invariant-characters : goal.invariant-characters
invariant-characters l = shadow (Utf8 l.left) × shadow (Utf8 l.right) × (slice_cmp nat_cmp (chars l.left) (folded l.fold (chars l.right)) ≡ slice_cmp nat_cmp (chars l.fn.key) (folded l.fold (chars l.fn.text)))

abbrev pub decreases-characters : goal.decreases-characters
decreases-characters l = length (chars l.left)
