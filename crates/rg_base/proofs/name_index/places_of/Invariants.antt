use Rattle.std.proofs.Common.{take}
use Rattle.rg_base.specs.Places.{IsIndex}
use Rattle.rg_base.proofs.name_index.places_of.Given as goal

abbrev pub invariant-loop-place : goal.invariant-loop-place
invariant-loop-place l = IsIndex l.places (take l.place l.names)
