use Rattle.std.proofs.Common.{◌∙◌}
use Rattle.rg_policy_sets.specs.Moved.{row_id}
use Rattle.rg_policy_sets.specs.Plan.{plan_of}
use Rattle.rg_policy_sets.proofs.Refiled.{if_ok}
use Rattle.rg_policy_sets.proofs.Settled.{row_slot_ids}
use Rattle.rg_policy_sets.proofs.sides.row_plan.Goals as goal

pub returns : goal.returns
returns c =
    if_ok c.plan_of.result (λ p is.
    is ∙ (λ i. plan_of row_id (row_slot_ids c.args.slots.now i) ((c.deref.ensures.value ∙ c.in_ok-edits.ensures) i))) c.plan_of.ensures.plan
