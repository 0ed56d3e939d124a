use Rattle.std.proofs.Common.{◌≡◌, fold, map, subst, sym, ap, ◌∙◌}
use Rattle.std.specs.List.{list_all}
use Rattle.rg_base.specs.Texts.{all_distinct}
use Rattle.rg_evalr.specs.Frames.{def_of}
use Rattle.rg_evalr.specs.declared.frame.Frame.{Frame}
use Rattle.rg_facts.specs.Sound.{passes, same_id}
use Rattle.rg_policy_sets.specs.Bounds.{WorkWithin, made_on, pairs_on, side_after}
use Rattle.rg_policy_sets.specs.Kept.{ArePolicies, policies_in, source_form}
use Rattle.rg_policy_sets.specs.Moved.{edits_of, plan_on, policy_id}
use Rattle.rg_policy_sets.specs.Plan.{plan_of}
use Rattle.rg_policy_sets.specs.Seen.{Policies}
use Rattle.rg_policy_sets.proofs.Counting.{no_work}
use Rattle.rg_policy_sets.proofs.Settled.{are_policies_after, policies_after_all, policies_counted, policies_fitting}
use Rattle.rg_policy_sets.proofs.policies.PolicySet.apply.Goals as goal

pub returns-in_err-levels-clause-steps : goal.returns-in_err-levels-clause-steps
returns-in_err-levels-clause-steps g c = no_work _ _ _

pub returns-in_err-plan-clause-steps : goal.returns-in_err-plan-clause-steps
returns-in_err-plan-clause-steps g c = no_work _ _ _

pub moved-requires-clause-same : goal.moved-requires-clause-same
moved-requires-clause-same g c =
    let frame = ap (λ (s : Policies). s.frame) c.self.view_is ∙ sym c.requires.same in
    c.def_of-def.ensures ∙ (λ i. def_of (sym frame i) c.self.inside.side) ∙ sym c.self.invariant.0.def

pub moved-requires-clause-fit : goal.moved-requires-clause-fit
moved-requires-clause-fit g c =
    let frame = ap (λ (s : Policies). s.frame) c.self.view_is ∙ sym c.requires.same in
    policies_fitting c.args.frame.now c.self.inside.side c.self.inside.shelf (subst (λ (f : Frame). ArePolicies f c.self.inside.side c.self.inside.shelf) frame c.self.invariant.0) c.args.changes.now c.def_of-def.result.now c.def_of-def.ensures (plan_on source_form c.self.inside.shelf.slots c.in_ok-plan.plan)
    (subst (λ l. plan_on source_form l c.in_ok-plan.plan ≡ plan_of policy_id (map policy_id (policies_in l)) (edits_of c.self.inside.side c.args.changes.now)) c.slots.ensures.slots c.in_ok-plan.ensures)
    ((λ i. list_all (passes (sym frame i) c.self.inside.side) (fold (side_after c.self.inside.side) (policies_in c.self.inside.shelf.slots) c.args.changes.now))
    ∙ ap (λ (s : Policies). list_all (passes s.frame s.side) (fold (side_after s.side) s.policies c.args.changes.now)) c.self.view_is ∙ c.requires.rules)

pub returns-in_err-shelf-clause-steps : goal.returns-in_err-shelf-clause-steps
returns-in_err-shelf-clause-steps g c =
    let frame = ap (λ (s : Policies). s.frame) c.self.view_is ∙ sym c.requires.same in
    subst (λ (s : Policies). WorkWithin (made_on s.side c.args.changes.now) (pairs_on (def_of s.frame s.side) s.side s.policies c.args.changes.now) c.args.steps.now c.moved.new.steps) c.self.view_is
    (subst (λ (f : Frame). WorkWithin (made_on c.self.inside.side c.args.changes.now) (pairs_on (def_of f c.self.inside.side) c.self.inside.side (policies_in c.self.inside.shelf.slots) c.args.changes.now) c.args.steps.now c.moved.new.steps) (sym frame)
    (policies_counted c.args.frame.now c.self.inside.side c.self.inside.shelf (subst (λ (f : Frame). ArePolicies f c.self.inside.side c.self.inside.shelf) frame c.self.invariant.0) c.args.changes.now c.def_of-def.result.now c.def_of-def.ensures (plan_on source_form c.self.inside.shelf.slots c.in_ok-plan.plan)
    (subst (λ l. plan_on source_form l c.in_ok-plan.plan ≡ plan_of policy_id (map policy_id (policies_in l)) (edits_of c.self.inside.side c.args.changes.now)) c.slots.ensures.slots c.in_ok-plan.ensures)
    (ap (λ (s : Policies). all_distinct same_id (fold (side_after s.side) s.policies c.args.changes.now)) c.self.view_is ∙ c.requires.distinct)
    c.args.steps.now c.moved.new.steps c.moved.ensures.steps))

pub returns-clause-steps : goal.returns-clause-steps
returns-clause-steps g c =
    let frame = ap (λ (s : Policies). s.frame) c.self.view_is ∙ sym c.requires.same in
    subst (λ (s : Policies). WorkWithin (made_on s.side c.args.changes.now) (pairs_on (def_of s.frame s.side) s.side s.policies c.args.changes.now) c.args.steps.now c.moved.new.steps) c.self.view_is
    (subst (λ (f : Frame). WorkWithin (made_on c.self.inside.side c.args.changes.now) (pairs_on (def_of f c.self.inside.side) c.self.inside.side (policies_in c.self.inside.shelf.slots) c.args.changes.now) c.args.steps.now c.moved.new.steps) (sym frame)
    (policies_counted c.args.frame.now c.self.inside.side c.self.inside.shelf (subst (λ (f : Frame). ArePolicies f c.self.inside.side c.self.inside.shelf) frame c.self.invariant.0) c.args.changes.now c.def_of-def.result.now c.def_of-def.ensures (plan_on source_form c.self.inside.shelf.slots c.in_ok-plan.plan)
    (subst (λ l. plan_on source_form l c.in_ok-plan.plan ≡ plan_of policy_id (map policy_id (policies_in l)) (edits_of c.self.inside.side c.args.changes.now)) c.slots.ensures.slots c.in_ok-plan.ensures)
    (ap (λ (s : Policies). all_distinct same_id (fold (side_after s.side) s.policies c.args.changes.now)) c.self.view_is ∙ c.requires.distinct)
    c.args.steps.now c.moved.new.steps c.moved.ensures.steps))

pub invariant_of-result : goal.invariant_of-result
invariant_of-result g c =
    let frame = ap (λ (s : Policies). s.frame) c.self.view_is ∙ sym c.requires.same in (
      subst (λ (f : Frame). ArePolicies f c.self.inside.side c.in_ok-shelf.shelf) (sym c.of.ensures)
          (are_policies_after c.args.frame.now c.self.inside.side c.self.inside.shelf (subst (λ (f : Frame). ArePolicies f c.self.inside.side c.self.inside.shelf) frame c.self.invariant.0) c.args.changes.now c.def_of-def.result.now c.def_of-def.ensures (plan_on source_form c.self.inside.shelf.slots c.in_ok-plan.plan)
          (subst (λ l. plan_on source_form l c.in_ok-plan.plan ≡ plan_of policy_id (map policy_id (policies_in l)) (edits_of c.self.inside.side c.args.changes.now)) c.slots.ensures.slots c.in_ok-plan.ensures)
          c.in_ok-shelf.shelf c.in_ok-shelf.ensures.def c.in_ok-shelf.ensures.held),
      c.in_ok-levels.ensures ∙ c.self.invariant.1 ∙ (λ i. (def_of ((frame ∙ sym c.of.ensures) i) c.self.inside.side).levels),
    )

pub returns-clause-made : goal.returns-clause-made
returns-clause-made g c =
    let frame = ap (λ (s : Policies). s.frame) c.self.view_is ∙ sym c.requires.same in
    let these = policies_after_all c.args.frame.now c.self.inside.side c.self.inside.shelf (subst (λ (f : Frame). ArePolicies f c.self.inside.side c.self.inside.shelf) frame c.self.invariant.0) c.args.changes.now c.def_of-def.result.now c.def_of-def.ensures (plan_on source_form c.self.inside.shelf.slots c.in_ok-plan.plan)
    (subst (λ l. plan_on source_form l c.in_ok-plan.plan ≡ plan_of policy_id (map policy_id (policies_in l)) (edits_of c.self.inside.side c.args.changes.now)) c.slots.ensures.slots c.in_ok-plan.ensures)
    c.in_ok-shelf.shelf c.in_ok-shelf.ensures.def c.in_ok-shelf.ensures.held in
    (λ i. record { frame = (c.of.ensures ∙ sym frame) i; side = c.self.inside.side; policies = these i })
    ∙ ap (λ (s : Policies). (let t : Policies = record { frame = s.frame; side = s.side; policies = fold (side_after s.side) s.policies c.args.changes.now } in t)) c.self.view_is
