use Rattle.std.proofs.Common.{◌≡◌, drop}
use Rattle.rg_delegate.specs.Compiled.{form_map_covered}
use Rattle.rg_delegate.proofs.covering.map_covered.Given as goal

-- the rest decides
abbrev pub invariant-loop-map : goal.invariant-loop-map
invariant-loop-map l = form_map_covered (drop l.map-index l.maps) l.n ≡ form_map_covered l.maps l.n
