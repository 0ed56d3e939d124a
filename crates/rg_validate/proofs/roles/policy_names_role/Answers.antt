use Rattle.std.proofs.Common.{◌∙◌}
use Rattle.rg_base.specs.Texts.{is_among}
use Rattle.rg_policy.specs.declared.policy.Item.{Item}
use Rattle.rg_validate.proofs.ListTests.{some_listed}
use Rattle.rg_validate.proofs.roles.policy_names_role.Goals as goal

pub returns : goal.returns
returns c = c.some_list_names.ensures ∙ some_listed (λ list. list.now) (λ (i : Item). is_among c.args.name.now i.roles.items) c.item_lists-lists.result c.args.policy.now c.item_lists-lists.ensures
