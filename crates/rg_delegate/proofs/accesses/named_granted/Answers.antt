use Rattle.std.proofs.Common.{◌∙◌}
use Rattle.rg_items.specs.Accesses.{any_grants}
use Rattle.rg_policy.specs.Kinds.{item_lists}
use Rattle.rg_delegate.proofs.Walks.{any_walked}
use Rattle.rg_delegate.proofs.accesses.named_granted.Goals as goal

pub returns : goal.returns
returns c = c.list_granted.ensures
    ∙ any_walked (λ list. list.now) (λ access. any_grants c.args.def.now access c.args.given.now) c.item_lists-lists.result (item_lists c.args.policy.now) c.item_lists-lists.ensures
