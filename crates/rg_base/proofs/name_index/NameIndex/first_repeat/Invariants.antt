use Rattle.std.proofs.Common.{◌≡◌, None}
use Rattle.rg_base.specs.Names.{first_place, repeats}
use Rattle.rg_base.proofs.name_index.NameIndex.first_repeat.Given as goal

abbrev pub invariant-loop-place : goal.invariant-loop-place
invariant-loop-place l = first_place (repeats l.self-inside.names.items) l.place ≡ None
