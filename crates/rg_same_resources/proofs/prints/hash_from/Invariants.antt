use Rattle.std.proofs.Common.{◌≡◌, length}
use Rattle.std.specs.Str.{chars}
use denote.Shadow.{shadow}
use denote.Text.{Utf8}
use Rattle.rg_same_resources.specs.Prints.{hash_from}
use Rattle.rg_same_resources.proofs.prints.hash_from.Given as goal

-- the rest decides
abbrev pub invariant-characters : goal.invariant-characters
invariant-characters l = (hash_from l.hash (chars l.rest) ≡ hash_from l.first (chars l.fn.text)) × shadow (Utf8 l.rest)

abbrev pub decreases-characters : goal.decreases-characters
decreases-characters l = length (chars l.rest)
