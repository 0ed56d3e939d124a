use Rattle.std.proofs.Common.{◌∙◌}
use Rattle.rg_policy.proofs.EveryItem.{every_listed}
use Rattle.rg_policy.specs.declared.policy.Item.{Item}
use Rattle.rg_cond.specs.PolicyRules.{all_compile}
use Rattle.rg_cond.proofs.policy_rules.every_item_compiles.Goals as goal

pub returns : goal.returns
returns c = c.all_lists_compile.ensures ∙ every_listed (λ list. list.now) (λ (i : Item). all_compile c.args.def.now i.conditions.items) c.item_lists-lists.result c.args.policy.now c.item_lists-lists.ensures
