use Rattle.std.proofs.Common.{◌≡◌, ◌&&◌, map, take}
use Rattle.std.specs.List.{filter}
use Rattle.rg_cmd.specs.Lookups.{is_of}
use Rattle.rg_policy.specs.declared.policy.Policy.{Policy}
use Rattle.rg_delegate.specs.Authority.{may_see}
use Rattle.rg_delegate.proofs.listing.seen_in_part.Given as goal

abbrev pub invariant-loop-policy : goal.invariant-loop-policy
invariant-loop-policy l = record {
  same : l.actor ≡ l.initial.actor;
  so_far : map (λ q. q.now) l.seen.items ≡ filter (λ (p : Policy). is_of l.service p && may_see l.state l.initial.actor.name p) (take l.policy-index l.policies);
}
