use Rattle.std.proofs.Common.{◌≡◌, drop}
use Rattle.rg_same_resources.specs.Prints.{with_maps}
use Rattle.rg_same_resources.proofs.prints.take_maps.Given as goal

-- the rest decides
abbrev pub invariant-loop-map : goal.invariant-loop-map
invariant-loop-map l = with_maps l.marks (drop l.map-index l.maps) ≡ with_maps l.fn.marks l.maps
