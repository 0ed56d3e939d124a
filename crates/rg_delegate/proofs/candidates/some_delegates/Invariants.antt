use Rattle.std.proofs.Common.{◌≡◌, false, take}
use Rattle.std.specs.List.{list_any}
use Rattle.rg_delegate.specs.Found.{delegates_anything}
use Rattle.rg_delegate.proofs.candidates.some_delegates.Given as goal

abbrev pub invariant-loop-item : goal.invariant-loop-item
invariant-loop-item l = record {
  same : l.actor ≡ l.initial.actor;
  none : list_any (delegates_anything l.initial.actor) (take l.item-index l.items) ≡ false;
}
