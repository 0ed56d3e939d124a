use Rattle.std.proofs.Common.{◌≡◌, take}
use denote.Shadow.{shadow}
use denote.Text.{Utf8}
use Rattle.std.specs.Str.{chars}
use Rattle.rg_tree.specs.Hashes.{state_after}
use Rattle.rg_policy_sets.proofs.marks.hash_of_first.Given as goal

-- so many of the characters that are left lead to the state of all
abbrev pub invariant-characters : goal.invariant-characters
invariant-characters l = shadow (Utf8 l.rest) × (state_after l.fold l.state (take l.left (chars l.rest)) ≡ state_after l.fold 0 (take l.fn.count (chars l.fn.text)))

abbrev pub decreases-characters : goal.decreases-characters
decreases-characters l = l.left
