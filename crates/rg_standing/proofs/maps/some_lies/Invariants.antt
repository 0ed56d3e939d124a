use Rattle.std.proofs.Common.{◌≡◌, drop}
use Rattle.std.specs.Str.{chars}
use Rattle.rg_resmatch.specs.Tests.{some_lies}
use Rattle.rg_resmatch.specs.declared.reach.Reach.TheVariants.{Exact}
use Rattle.rg_standing.proofs.maps.some_lies.Given as goal

-- the rest decides
abbrev pub invariant-loop-map : goal.invariant-loop-map
invariant-loop-map l = some_lies l.def (drop l.map-index l.maps) Exact l.elements (chars l.user) ≡ some_lies l.def l.maps Exact l.elements (chars l.user)
