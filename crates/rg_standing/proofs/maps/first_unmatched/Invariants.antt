use Rattle.std.proofs.Common.{◌≡◌, drop}
use Rattle.std.specs.Str.{chars}
use Rattle.rg_standing.specs.Hits.{first_unmatched}
use Rattle.rg_standing.proofs.maps.first_unmatched.Given as goal

-- what is found is found in the rest
abbrev pub invariant-loop-resource : goal.invariant-loop-resource
invariant-loop-resource l = first_unmatched l.def (chars l.user) l.elements (drop l.resource-index l.resources)
    ≡ first_unmatched l.def (chars l.user) l.elements l.resources
