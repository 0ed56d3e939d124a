use Rattle.std.proofs.Common.{◌≡◌, ◌++◌, take, Bor, List}
use Rattle.std.specs.List.{flat_map}
use Rattle.rg_policy.specs.declared.policy.Item.{Item}
use Rattle.rg_acl.specs.Named.{named_by_items}
use Rattle.rg_acl.proofs.named.add_of_lists.Given as goal

abbrev pub invariant-loop-list : goal.invariant-loop-list
invariant-loop-list l = l.found.items ≡ l.initial.found.items ++ flat_map (λ (list : Bor (List Item)). named_by_items l.listing list.now) (take l.list-index l.lists)
