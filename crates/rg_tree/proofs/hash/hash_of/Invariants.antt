use Rattle.std.proofs.Common.{◌≡◌, length}
use denote.Shadow.{shadow}
use denote.Text.{Utf8}
use Rattle.std.specs.Str.{chars}
use Rattle.rg_tree.specs.Hashes.{state_after}
use Rattle.rg_tree.proofs.hash.hash_of.Given as goal

-- what is left leads to the state of the whole
abbrev pub invariant-characters : goal.invariant-characters
invariant-characters l = shadow (Utf8 l.rest) × (state_after l.fold l.state (chars l.rest) ≡ state_after l.fold 0 (chars l.fn.text))

abbrev pub decreases-characters : goal.decreases-characters
decreases-characters l = length (chars l.rest)
