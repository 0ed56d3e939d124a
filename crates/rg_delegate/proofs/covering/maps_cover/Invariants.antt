use Rattle.std.proofs.Common.{◌≡◌, drop}
use Rattle.rg_delegate.specs.Compiled.{form_maps_cover}
use Rattle.rg_delegate.proofs.covering.maps_cover.Given as goal

-- the rest decides
abbrev pub invariant-loop-other : goal.invariant-loop-other
invariant-loop-other l = form_maps_cover l.maps (drop l.other-index l.others) ≡ form_maps_cover l.maps l.others
