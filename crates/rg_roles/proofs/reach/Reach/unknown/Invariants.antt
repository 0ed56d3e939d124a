use Rattle.std.proofs.Common.{◌≡◌, None, map, option_map}
use Rattle.std.proofs.Math.ListN.{replicate}
use Rattle.rg_roles.proofs.reach.Reach.unknown.Given as goal

abbrev pub invariant-loop : goal.invariant-loop
invariant-loop l = map (option_map (λ v. v.items)) l.sets.items ≡ replicate l.counter None
