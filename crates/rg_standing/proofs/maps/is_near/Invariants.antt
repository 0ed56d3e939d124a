use Rattle.std.proofs.Common.{◌≡◌, drop}
use Rattle.std.specs.List.{list_any}
use Rattle.std.specs.Str.{chars}
use Rattle.rg_standing.specs.Hits.{map_near}
use Rattle.rg_standing.proofs.maps.is_near.Given as goal

-- the rest decides
abbrev pub invariant-loop-map : goal.invariant-loop-map
invariant-loop-map l = list_any (map_near l.def (chars l.user) l.elements) (drop l.map-index l.maps)
    ≡ list_any (map_near l.def (chars l.user) l.elements) l.maps
