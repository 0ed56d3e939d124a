use Rattle.std.proofs.Common.{◌≡◌, ◌∷◌, take}
use Rattle.rg_policy.proofs.maps.maps_of.Given as goal

-- the resources, then the additional maps so far
abbrev pub invariant-loop-map : goal.invariant-loop-map
invariant-loop-map l = l.maps.items ≡ record { levels = l.policy.resources } ∷ take l.map-index l.map-items
