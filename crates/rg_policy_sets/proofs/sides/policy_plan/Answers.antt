use Rattle.std.proofs.Common.{◌∙◌}
use Rattle.rg_policy_sets.specs.Moved.{policy_id}
use Rattle.rg_policy_sets.specs.Plan.{plan_of}
use Rattle.rg_policy_sets.proofs.Refiled.{if_ok}
use Rattle.rg_policy_sets.proofs.Settled.{policy_slot_ids}
use Rattle.rg_policy_sets.proofs.sides.policy_plan.Goals as goal

pub returns : goal.returns
returns c =
    if_ok c.plan_of.result (λ p is.
    is ∙ (λ i. plan_of policy_id (policy_slot_ids c.args.slots.now i) ((c.deref.ensures.value ∙ c.in_ok-edits.ensures) i))) c.plan_of.ensures.plan
