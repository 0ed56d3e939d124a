use Rattle.std.proofs.Common.{◌∙◌}
use Rattle.std.specs.List.{list_any}
use Rattle.rg_items.specs.Accesses.{any_grants}
use Rattle.rg_policy.specs.Kinds.{item_lists}
use Rattle.rg_delegate.proofs.Walks.{all_walked}
use Rattle.rg_delegate.proofs.accesses.all_named_granted.Goals as goal

pub returns : goal.returns
returns c = c.lists_granted.ensures
    ∙ all_walked (λ list. list.now) (λ access. list_any (λ item. any_grants c.args.def.now access item.now.accesses.items) c.args.by.now) c.item_lists-lists.result (item_lists c.args.policy.now) c.item_lists-lists.ensures
