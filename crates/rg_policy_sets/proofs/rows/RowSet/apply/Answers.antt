use Rattle.std.proofs.Common.{◌≡◌, fold, map, subst, sym, ap, ◌∙◌}
use Rattle.std.specs.List.{list_all}
use Rattle.std.specs.Ordering.{int_eq}
use Rattle.rg_base.specs.Texts.{all_distinct}
use Rattle.rg_defs.specs.declared.service_def.ServiceDef.{ServiceDef}
use Rattle.rg_delta.specs.Applied.{rows_after}
use Rattle.rg_delta.specs.Sides.{row_edit}
use Rattle.rg_facts.specs.Sound.{row_ids}
use Rattle.rg_resmatch.specs.Rules.{tagged_fit}
use Rattle.rg_tags.specs.declared.row.TagRow.{TagRow}
use Rattle.rg_policy_sets.specs.Bounds.{WorkWithin, row_pairs}
use Rattle.rg_policy_sets.specs.Kept.{row_source_form, rows_in}
use Rattle.rg_policy_sets.specs.Moved.{plan_on, row_id}
use Rattle.rg_policy_sets.specs.Plan.{plan_of}
use Rattle.rg_policy_sets.specs.Seen.{Rows}
use Rattle.rg_policy_sets.proofs.Counting.{no_work}
use Rattle.rg_policy_sets.proofs.Settled.{are_rows_after, rows_after_all, rows_counted, rows_fitting}
use Rattle.rg_policy_sets.proofs.rows.RowSet.apply.Goals as goal

pub returns-in_err-plan-clause-steps : goal.returns-in_err-plan-clause-steps
returns-in_err-plan-clause-steps g c = no_work _ _ _

pub moved-requires-clause-same : goal.moved-requires-clause-same
moved-requires-clause-same g c = c.requires.same ∙ sym (ap (λ (s : Rows). s.def) c.self.view_is)

pub moved-requires-clause-fit : goal.moved-requires-clause-fit
moved-requires-clause-fit g c =
    let def = c.requires.same ∙ sym (ap (λ (s : Rows). s.def) c.self.view_is) in
    rows_fitting c.self.inside.shelf c.self.invariant c.args.changes.now c.args.def.now (c.requires.same ∙ sym (ap (λ (s : Rows). s.def) c.self.view_is)) (plan_on row_source_form c.self.inside.shelf.slots c.in_ok-plan.plan)
    (subst (λ l. plan_on row_source_form l c.in_ok-plan.plan ≡ plan_of row_id (map row_id (rows_in l)) (map row_edit c.args.changes.now)) c.slots.ensures.slots c.in_ok-plan.ensures)
    ((λ i. list_all (λ (row : TagRow). tagged_fit (def i) row.resources.items) (fold rows_after (rows_in c.self.inside.shelf.slots) c.args.changes.now))
    ∙ ap (λ (s : Rows). list_all (λ (row : TagRow). tagged_fit s.def row.resources.items) (fold rows_after s.rows c.args.changes.now)) c.self.view_is ∙ c.requires.fit)

pub returns-in_err-shelf-clause-steps : goal.returns-in_err-shelf-clause-steps
returns-in_err-shelf-clause-steps g c =
    let def = c.requires.same ∙ sym (ap (λ (s : Rows). s.def) c.self.view_is) in
    subst (λ (s : Rows). WorkWithin 0 (row_pairs s.def s.rows c.args.changes.now) c.args.steps.now c.moved.new.steps) c.self.view_is
    (subst (λ (d : ServiceDef). WorkWithin 0 (row_pairs d (rows_in c.self.inside.shelf.slots) c.args.changes.now) c.args.steps.now c.moved.new.steps) def
    (rows_counted c.self.inside.shelf c.self.invariant c.args.changes.now c.args.def.now (c.requires.same ∙ sym (ap (λ (s : Rows). s.def) c.self.view_is)) (plan_on row_source_form c.self.inside.shelf.slots c.in_ok-plan.plan)
    (subst (λ l. plan_on row_source_form l c.in_ok-plan.plan ≡ plan_of row_id (map row_id (rows_in l)) (map row_edit c.args.changes.now)) c.slots.ensures.slots c.in_ok-plan.ensures)
    (ap (λ (s : Rows). all_distinct int_eq (row_ids (fold rows_after s.rows c.args.changes.now))) c.self.view_is ∙ c.requires.distinct)
    c.args.steps.now c.moved.new.steps c.moved.ensures.steps))

pub returns-clause-steps : goal.returns-clause-steps
returns-clause-steps g c =
    let def = c.requires.same ∙ sym (ap (λ (s : Rows). s.def) c.self.view_is) in
    subst (λ (s : Rows). WorkWithin 0 (row_pairs s.def s.rows c.args.changes.now) c.args.steps.now c.moved.new.steps) c.self.view_is
    (subst (λ (d : ServiceDef). WorkWithin 0 (row_pairs d (rows_in c.self.inside.shelf.slots) c.args.changes.now) c.args.steps.now c.moved.new.steps) def
    (rows_counted c.self.inside.shelf c.self.invariant c.args.changes.now c.args.def.now (c.requires.same ∙ sym (ap (λ (s : Rows). s.def) c.self.view_is)) (plan_on row_source_form c.self.inside.shelf.slots c.in_ok-plan.plan)
    (subst (λ l. plan_on row_source_form l c.in_ok-plan.plan ≡ plan_of row_id (map row_id (rows_in l)) (map row_edit c.args.changes.now)) c.slots.ensures.slots c.in_ok-plan.ensures)
    (ap (λ (s : Rows). all_distinct int_eq (row_ids (fold rows_after s.rows c.args.changes.now))) c.self.view_is ∙ c.requires.distinct)
    c.args.steps.now c.moved.new.steps c.moved.ensures.steps))

pub invariant_of-result : goal.invariant_of-result
invariant_of-result g c =
    are_rows_after c.self.inside.shelf c.self.invariant c.args.changes.now c.args.def.now (c.requires.same ∙ sym (ap (λ (s : Rows). s.def) c.self.view_is)) (plan_on row_source_form c.self.inside.shelf.slots c.in_ok-plan.plan)
    (subst (λ l. plan_on row_source_form l c.in_ok-plan.plan ≡ plan_of row_id (map row_id (rows_in l)) (map row_edit c.args.changes.now)) c.slots.ensures.slots c.in_ok-plan.ensures)
    c.in_ok-shelf.shelf c.in_ok-shelf.ensures.def c.in_ok-shelf.ensures.held

pub returns-clause-made : goal.returns-clause-made
returns-clause-made g c =
    let these = rows_after_all c.self.inside.shelf c.self.invariant c.args.changes.now c.args.def.now (c.requires.same ∙ sym (ap (λ (s : Rows). s.def) c.self.view_is)) (plan_on row_source_form c.self.inside.shelf.slots c.in_ok-plan.plan)
    (subst (λ l. plan_on row_source_form l c.in_ok-plan.plan ≡ plan_of row_id (map row_id (rows_in l)) (map row_edit c.args.changes.now)) c.slots.ensures.slots c.in_ok-plan.ensures)
    c.in_ok-shelf.shelf c.in_ok-shelf.ensures.def c.in_ok-shelf.ensures.held in
    (λ i. record { def = (c.in_ok-shelf.ensures.def ∙ c.requires.same ∙ sym (ap (λ (s : Rows). s.def) c.self.view_is)) i; rows = these i })
    ∙ ap (λ (s : Rows). (let t : Rows = record { def = s.def; rows = fold rows_after s.rows c.args.changes.now } in t)) c.self.view_is
