use Rattle.std.proofs.Common.{◌∙◌}
use Rattle.rg_delegate.proofs.Walks.{none_walked}
use Rattle.rg_policy.specs.Kinds.{item_lists}
use Rattle.rg_delegate.proofs.accesses.names_none.Goals as goal

pub returns : goal.returns
returns c = c.lists_name_none.ensures ∙ none_walked (λ list. list.now) c.item_lists-lists.result (item_lists c.args.policy.now) c.item_lists-lists.ensures
