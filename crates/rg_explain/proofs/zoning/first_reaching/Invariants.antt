use Rattle.std.proofs.Common.{◌≡◌, drop}
use Rattle.std.specs.List.{position_from}
use Rattle.rg_explain.specs.Parts.{reaches}
use Rattle.rg_explain.proofs.zoning.first_reaching.Given as goal

-- what is found is found in the rest
abbrev pub invariant-loop-place : goal.invariant-loop-place
invariant-loop-place l = position_from (reaches l.def l.elements) l.place (drop l.place l.maps) ≡ position_from (reaches l.def l.elements) 0 l.maps
