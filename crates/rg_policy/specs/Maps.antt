-- The resource maps of a policy.
use Rattle.std.specs.Prelude.{List, ◌∷◌}
use Rattle.rg_policy.specs.declared.policy.Policy.{Policy}
use Rattle.rg_policy.specs.declared.policy.ResourceMap.{ResourceMap}

-- its resources, then the additional maps
abbrev pub maps_of : Policy → List ResourceMap
maps_of p = record { levels = p.resources } ∷ p.additional.items
