use Rattle.std.proofs.Common.{ℕ, length, subst, sym, ◌∙◌, arith}
use Rattle.rg_evalr.specs.Frames.{def_of}
use Rattle.rg_evalr.specs.declared.frame.Frame.{Frame}
use Rattle.rg_policy_sets.specs.Bounds.{WorkWithin}
use Rattle.rg_policy_sets.specs.Kept.{ArePolicies}
use Rattle.rg_policy_sets.proofs.Counting.{no_edits, no_work, sum_of_ones}
use Rattle.rg_policy_sets.proofs.Building.{are_policies, policies_fit, policies_rise, policies_within, these_policies}
use Rattle.rg_policy_sets.proofs.policies.PolicySet.build.Goals as goal

pub build-requires-clause-rising : goal.build-requires-clause-rising
build-requires-clause-rising g c = policies_rise c.args.frame.now c.args.side c.args.policies.now c.def_of-def.result.now c.def_of-def.ensures c.in_ok-slots.slots.items c.in_ok-slots.ensures.slots

pub build-requires-clause-fit : goal.build-requires-clause-fit
build-requires-clause-fit g c = policies_fit c.args.frame.now c.args.side c.args.policies.now c.def_of-def.result.now c.def_of-def.ensures c.in_ok-slots.slots.items c.in_ok-slots.ensures.slots c.requires.rules

pub returns-in_err-levels-clause-steps : goal.returns-in_err-levels-clause-steps
returns-in_err-levels-clause-steps g c = no_work _ _ _

pub returns-in_err-slots-clause-steps : goal.returns-in_err-slots-clause-steps
returns-in_err-slots-clause-steps g c =
    no_edits _ _ _ _ (subst (λ (n : ℕ). WorkWithin n 0 c.args.steps.now c.compile_slots.new.steps) (sum_of_ones c.args.policies.now) c.compile_slots.ensures.steps)

pub returns-in_err-shelf-clause-steps : goal.returns-in_err-shelf-clause-steps
returns-in_err-shelf-clause-steps g c =
    policies_within c.args.frame.now c.args.side c.args.policies.now c.def_of-def.result.now c.def_of-def.ensures c.in_ok-slots.slots.items c.in_ok-slots.ensures.slots
    (length c.args.policies.now) c.args.steps.now c.compile_slots.new.steps c.build.new.steps
    (subst (λ (n : ℕ). WorkWithin n 0 c.args.steps.now c.compile_slots.new.steps) (sum_of_ones c.args.policies.now) c.compile_slots.ensures.steps) c.build.ensures.steps

pub returns-clause-compiled : goal.returns-clause-compiled
returns-clause-compiled g c =
    let each = c.in_ok-slots.ensures.compiled in
    let filed = c.build.ensures.steps.compiles in
    let all = sum_of_ones c.args.policies.now in
    omega (arith, each, filed, all)

pub returns-clause-steps : goal.returns-clause-steps
returns-clause-steps g c =
    policies_within c.args.frame.now c.args.side c.args.policies.now c.def_of-def.result.now c.def_of-def.ensures c.in_ok-slots.slots.items c.in_ok-slots.ensures.slots
    (length c.args.policies.now) c.args.steps.now c.compile_slots.new.steps c.build.new.steps
    (subst (λ (n : ℕ). WorkWithin n 0 c.args.steps.now c.compile_slots.new.steps) (sum_of_ones c.args.policies.now) c.compile_slots.ensures.steps) c.build.ensures.steps

pub invariant_of-result : goal.invariant_of-result
invariant_of-result g c = (
  subst (λ (frame : Frame). ArePolicies frame c.args.side c.in_ok-shelf.shelf) (sym c.of.ensures)
      (are_policies c.args.frame.now c.args.side c.args.policies.now c.def_of-def.result.now c.def_of-def.ensures c.in_ok-slots.slots.items c.in_ok-slots.ensures.slots c.in_ok-shelf.shelf c.in_ok-shelf.ensures.made),
  c.in_ok-levels.ensures ∙ (λ i. (c.def_of-def.ensures i).levels) ∙ (λ i. (def_of (sym c.of.ensures i) c.args.side).levels),
)

pub returns-clause-made : goal.returns-clause-made
returns-clause-made g c =
    let these = these_policies c.args.frame.now c.args.side c.args.policies.now c.def_of-def.result.now c.def_of-def.ensures c.in_ok-slots.slots.items c.in_ok-slots.ensures.slots c.in_ok-shelf.shelf c.in_ok-shelf.ensures.made in
    λ i. record { frame = c.of.ensures i; side = c.args.side; policies = these i }
