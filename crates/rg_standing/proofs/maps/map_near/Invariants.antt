use Rattle.std.proofs.Common.{◌≡◌, drop}
use Rattle.std.specs.List.{list_any}
use Rattle.std.specs.Str.{chars}
use Rattle.rg_standing.specs.Hits.{level_hit}
use Rattle.rg_standing.proofs.maps.map_near.Given as goal

-- the rest decides
abbrev pub invariant-loop-resource : goal.invariant-loop-resource
invariant-loop-resource l = list_any (level_hit l.def (chars l.user) l.elements) (drop l.resource-index l.map.levels.items)
    ≡ list_any (level_hit l.def (chars l.user) l.elements) l.map.levels.items
