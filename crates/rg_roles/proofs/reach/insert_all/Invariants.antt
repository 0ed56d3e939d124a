use Rattle.std.proofs.Common.{◌≡◌, length, take}
use Rattle.rg_roles.proofs.Reached.{AreListed}
use Rattle.rg_roles.proofs.reach.insert_all.Given as goal

abbrev pub invariant-loop-place : goal.invariant-loop-place
invariant-loop-place l = (length l.words ≡ length l.initial.words) × AreListed (take l.place-index l.places) l.words
