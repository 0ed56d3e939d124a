use Rattle.std.proofs.Common.{◌≡◌, take, map}
use Rattle.std.specs.Str.{chars}
use Rattle.rg_base.specs.Listed.{listed}
use Rattle.rg_standing.specs.Hits.{miss_of}
use Rattle.rg_standing.proofs.maps.misses.Given as goal

abbrev pub invariant-loop-map : goal.invariant-loop-map
invariant-loop-map l = l.list ≡ listed (map (miss_of l.def (chars l.user) l.elements) (take l.map-index l.maps))
