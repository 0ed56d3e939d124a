use Rattle.std.proofs.Common.{◌≡◌, ◌++◌, take}
use Rattle.rg_acl.specs.Named.{named_by_items}
use Rattle.rg_acl.proofs.named.add_of_items.Given as goal

abbrev pub invariant-loop-item : goal.invariant-loop-item
invariant-loop-item l = l.found.items ≡ l.initial.found.items ++ named_by_items l.listing (take l.item-index l.items)
