use Rattle.std.proofs.Common.{◌∙◌, Result, Ok, Err, Some, cond, OnOk, sym, ap}
use Rattle.std.specs.BTreeMap.{get}
use Rattle.std.specs.Ordering.{int_cmp, int_eq}
use Rattle.rg_delta.proofs.Fated.{fates_by_update}
use Rattle.rg_delta.proofs.fates.precede.Goals as goal

on_ok : {T E P Q : Type 0} (r : Result T E) → (P → Q) → OnOk r P → OnOk r Q
on_ok (Ok x) f p = f p
on_ok (Err e) f p = tt

pub returns-in-None : goal.returns-in-None
returns-in-None g c =
    let id_of = g.X.Identified.id_of in
    let same = c.id-id.ensures ∙ ap (λ e. id_of e.item) c.edit.view_is in
    on_ok c.set_at.result (λ sets. fates_by_update id_of c.args.edits.now c.args.at c.index-edits-at.result c.requires c.index-edits-at.is c.args.fates.now c.set_at.new.values
    (ap (λ e. e.change_type) (sym c.edit.view_is) ∙ c.in-1.is)
    (ap (get int_cmp c.args.fates.now) (sym same) ∙ sym c.value_at.ensures ∙ c.in-None.is)
    (λ id. sets id ∙ ap (λ k. cond (int_eq k id) (Some (Some c.args.at)) (get int_cmp c.args.fates.now id)) same))
    c.set_at.ensures
