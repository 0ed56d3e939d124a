use Rattle.std.proofs.Common.{◌≡◌, map, take}
use Rattle.std.specs.List.{filter}
use Rattle.std.specs.Str.{chars}
use Rattle.rg_cmd.specs.Lookups.{is_of}
use Rattle.rg_delegate.proofs.listing.of_service.Given as goal

abbrev pub invariant-loop-policy : goal.invariant-loop-policy
invariant-loop-policy l = map (λ q. q.now) l.found.items ≡ filter (is_of (chars l.service)) (take l.policy-index l.policies)
