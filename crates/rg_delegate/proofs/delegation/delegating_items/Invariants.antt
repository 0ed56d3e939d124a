use Rattle.std.proofs.Common.{◌≡◌, map, take}
use Rattle.rg_delegate.specs.Found.{items_in}
use Rattle.rg_delegate.proofs.delegation.delegating_items.Given as goal

abbrev pub invariant-loop-policy : goal.invariant-loop-policy
invariant-loop-policy l = record {
  same : l.actor ≡ l.initial.actor;
  so_far : map (λ item. item.now) l.found.items ≡ items_in l.asked l.initial.actor (map (λ q. q.policy) (take l.policy-index l.policies));
}
