use Rattle.std.proofs.Common.{◌≡◌, ◌∷◌, take}
use Rattle.std.specs.Str.{chars}
use Rattle.rg_base.specs.Listed.{listed}
use Rattle.rg_defs.proofs.accesses.expand.Given as goal

-- the access and the grants so far
abbrev pub invariant-loop-grant : goal.invariant-loop-grant
invariant-loop-grant l = l.list ≡ listed (chars l.access ∷ take l.grant-index l.grant-items)
