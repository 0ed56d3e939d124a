use Rattle.std.proofs.Common.{take}
use Rattle.rg_roles.specs.Places.{IsGrown, IsMarked}
use Rattle.rg_roles.proofs.walk.visit_all.Given as goal

abbrev pub invariant-loop-place : goal.invariant-loop-place
invariant-loop-place l = IsMarked l.found.items l.seen × IsGrown (take l.place-index l.places) l.initial.found.items l.found.items
