use Rattle.std.proofs.Common.{◌≡◌, map, take}
use Rattle.rg_base.proofs.name_index.names_of.Given as goal

abbrev pub invariant-loop-thing : goal.invariant-loop-thing
invariant-loop-thing g l = l.names.items ≡ map g.T.Named.named (take l.thing-index l.things)
