use Rattle.std.proofs.Common.{◌∙◌, Some, cond, true, false, sym, ap}
use Rattle.std.specs.BTreeMap.{get}
use Rattle.std.specs.Ordering.{int_cmp, int_eq}
use Rattle.rg_delta.proofs.Marked.{marked_by_delete, marked_by_update}
use Rattle.rg_delta.proofs.births.follow.Goals as goal

pub returns-in_ok-set_at-in-1-clause-ids : goal.returns-in_ok-set_at-in-1-clause-ids
returns-in_ok-set_at-in-1-clause-ids g c = λ items are.
    marked_by_update g.X.Identified.id_of c.args.ids.now c.set_at-in-1.new.values items c.args.edit.now are
    (ap (λ e. e.change_type) (sym c.edit.view_is) ∙ c.in-1.is)
    (λ id. c.in_ok-set_at-in-1.ensures id
    ∙ ap (λ k. cond (int_eq k id) (Some true) (get int_cmp c.args.ids.now id)) (c.id-id.ensures ∙ ap (λ e. g.X.Identified.id_of e.item) c.edit.view_is))

pub returns-in_ok-set_at-in-2-clause-ids : goal.returns-in_ok-set_at-in-2-clause-ids
returns-in_ok-set_at-in-2-clause-ids g c = λ items are.
    marked_by_delete g.X.Identified.id_of c.args.ids.now c.set_at-in-2.new.values items c.args.edit.now are
    (ap (λ e. e.change_type) (sym c.edit.view_is) ∙ c.in-2.is)
    (λ id. c.in_ok-set_at-in-2.ensures id
    ∙ ap (λ k. cond (int_eq k id) (Some false) (get int_cmp c.args.ids.now id)) (c.id-id.ensures ∙ ap (λ e. g.X.Identified.id_of e.item) c.edit.view_is))
