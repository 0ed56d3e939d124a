use Rattle.std.proofs.Common.{◌≡◌, find, length}
use denote.Text.{Utf8}
use denote.Shadow.{shadow}
use Rattle.rg_rest.specs.Query.{has_version, pairs_of}
use Rattle.rg_rest.proofs.query.known_version.Given as goal

-- the pairs before the rest have other names
abbrev pub invariant-loop-others : goal.invariant-loop-others
invariant-loop-others l = shadow (Utf8 l.rest) × (find has_version (pairs_of l.rest) ≡ find has_version (pairs_of l.query))

abbrev pub decreases-loop-others : goal.decreases-loop-others
decreases-loop-others l = length l.rest
