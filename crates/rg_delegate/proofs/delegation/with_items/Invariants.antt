use Rattle.std.proofs.Common.{◌≡◌, ◌++◌, map, take}
use Rattle.std.specs.List.{filter}
use Rattle.rg_delegate.specs.Found.{delegates_some}
use Rattle.rg_delegate.proofs.delegation.with_items.Given as goal

abbrev pub invariant-loop-item : goal.invariant-loop-item
invariant-loop-item l = record {
  same : l.actor ≡ l.initial.actor;
  so_far : map (λ item. item.now) l.found.items ≡ map (λ item. item.now) l.fn.found.items ++ filter (delegates_some l.asked l.initial.actor) (take l.item-index l.items);
}
