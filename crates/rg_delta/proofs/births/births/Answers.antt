use Rattle.std.proofs.Common.{◌<◌, arith, ◌∙◌, length, sym, subst, [], ◌∷◌, ◌++◌}
use Rattle.rg_delta.specs.Editing.{AreIds}
use Rattle.rg_delta.proofs.Edited.{births_next, edited_next}
use Rattle.rg_delta.proofs.births.births.Goals as goal

pub loop-edit-preserved : goal.loop-edit-preserved
loop-edit-preserved g c =
    let id_of = g.X.Identified.id_of in
    let within : c.loop-edit.edit-index < length c.args.edits.now = omega arith in
    record {
      ids = subst (AreIds id_of c.follow.new.ids) (sym (edited_next id_of c.args.items.now c.args.edits.now c.loop-edit.edit-index c.edit-item.result within c.edit-item.is))
          (c.in_ok-mark.ensures.ids _ c.loop-edit.invariant.ids);
      marks = c.in_ok-push.ensures.items
          ∙ (λ i. c.loop-edit.invariant.marks i ++ c.in_ok-mark.ensures.birth _ c.loop-edit.invariant.ids i ∷ [])
          ∙ sym (births_next id_of c.args.items.now c.args.edits.now c.loop-edit.edit-index c.edit-item.result within c.edit-item.is);
    }
