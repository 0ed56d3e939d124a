use Rattle.std.proofs.Common.{◌≡◌, ap, sym, ◌∙◌, arith}
use Rattle.std.proofs.lemmas.List.{take_all}
use Rattle.rg_policy_sets.specs.Kept.{slot_ids}
use Rattle.rg_policy_sets.specs.Plan.{plan_of, said_of, spread, standing}
use Rattle.rg_policy_sets.proofs.Planning.{plan_stands}
use Rattle.rg_policy_sets.proofs.Saying.{said_plan}
use Rattle.rg_policy_sets.proofs.plan.plan_of.Goals as goal

pub returns-clause-plan : goal.returns-clause-plan
returns-clause-plan g c =
    let id_of = g.X.Identified.id_of in
    let ids = slot_ids g.H.Fileable.form_of c.args.slots.now in
    ap (spread ids) (c.loop-edit.invariant ∙ ap (said_of id_of ids) (take_all c.loop-edit.edit-index c.args.edits.now (omega arith))) ∙ said_plan id_of ids c.args.edits.now

pub returns-clause-stands : goal.returns-clause-stands
returns-clause-stands g c = λ xs are.
    let id_of = g.X.Identified.id_of in
    let ids = slot_ids g.H.Fileable.form_of c.args.slots.now in
    let exact : spread ids c.loop-edit.plan ≡ plan_of id_of ids c.args.edits.now =
    ap (spread ids) (c.loop-edit.invariant ∙ ap (said_of id_of ids) (take_all c.loop-edit.edit-index c.args.edits.now (omega arith))) ∙ said_plan id_of ids c.args.edits.now in
    ap (λ p. standing p xs) exact ∙ (λ i. standing (plan_of id_of (sym are i) c.args.edits.now) xs) ∙ plan_stands id_of xs c.args.edits.now
