use Rattle.std.proofs.Common.{◌∙◌, ◌++◌, length, sym, ap}
use Rattle.rg_delta.specs.Editing.{births, born}
use Rattle.rg_delta.proofs.Edited.{after_edits, length-births}
use Rattle.rg_delta.proofs.apply.apply_edits.Goals as goal

pub fates_of-requires : goal.fates_of-requires
fates_of-requires g c =
    let id_of = g.X.Identified.id_of in
    ap length (c.as_slice-2.ensures.value ∙ c.in_ok-marks.ensures ∙ ap (λ items. births id_of items c.args.edits.now) c.as_slice.ensures.value)
    ∙ length-births id_of c.args.items.items c.args.edits.now

pub returns : goal.returns
returns g c =
    let id_of = g.X.Identified.id_of in
    let marks = c.as_slice-2.ensures.value ∙ c.in_ok-marks.ensures ∙ ap (λ items. births id_of items c.args.edits.now) c.as_slice.ensures.value in
    c.in_ok-append_reversed.ensures
    ∙ (λ i. c.in_ok-list.ensures i ++ (c.in_ok-fates.ensures.born ∙ ap (born id_of c.args.edits.now) marks) i)
    ∙ sym (after_edits id_of c.args.items.items c.args.edits.now)
