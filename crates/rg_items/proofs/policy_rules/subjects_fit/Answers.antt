use Rattle.std.proofs.Common.{◌∙◌}
use Rattle.rg_policy.proofs.EveryItem.{every_listed}
use Rattle.rg_items.specs.PolicyRules.{item_subjects_fit}
use Rattle.rg_items.proofs.policy_rules.subjects_fit.Goals as goal

pub returns : goal.returns
returns c = c.all_lists_subjects_fit.ensures ∙ every_listed (λ list. list.now) (item_subjects_fit c.args.roles.now) c.item_lists-lists.result c.args.policy.now c.item_lists-lists.ensures
