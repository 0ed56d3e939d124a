use Rattle.std.proofs.Common.{◌+◌, ◌++◌, ◌∷◌, Contains, sym, ap, subst, ◌∙◌}
use Rattle.rg_index.specs.Changes.{form_fits}
use Rattle.rg_index.specs.Filing.{pairs}
use Rattle.rg_index.specs.declared.form.Form.{Form}
use Rattle.rg_policy_sets.specs.Kept.{Placed, renumbered, slot_form}
use Rattle.rg_policy_sets.proofs.Counting.{with_edits}
use Rattle.rg_policy_sets.proofs.Reshelved.{as_many, compiled_alone}
use Rattle.rg_policy_sets.proofs.moving.replace_slot.Goals as goal

pub returns-in_err-renewed-clause-steps : goal.returns-in_err-renewed-clause-steps
returns-in_err-renewed-clause-steps g c = compiled_alone c.compiled_slot.ensures.steps

pub returns-in_err-old-clause-steps : goal.returns-in_err-old-clause-steps
returns-in_err-old-clause-steps g c = compiled_alone c.compiled_slot.ensures.steps

pub returns-in_err-new-clause-steps : goal.returns-in_err-new-clause-steps
returns-in_err-new-clause-steps g c = compiled_alone c.compiled_slot.ensures.steps

pub with_form_for-requires-clause-among : goal.with_form_for-requires-clause-among
with_form_for-requires-clause-among g c = subst (Contains c.args.moving.now.index.forms) (sym c.in_ok-old.ensures) c.requires.among

pub with_form_for-requires-clause-id : goal.with_form_for-requires-clause-id
with_form_for-requires-clause-id g c =
    ap (λ (f : Form). f.id) c.in_ok-new.ensures
    ∙ ap (λ (s : Placed g.row.H.Denot). s.ordinal) c.in_ok-renewed.ensures.slot
    ∙ c.own_ordinal-ordinal.ensures
    ∙ sym (ap (λ (f : Form). f.id) c.in_ok-old.ensures)

pub with_form_for-requires-clause-fit : goal.with_form_for-requires-clause-fit
with_form_for-requires-clause-fit g c =
    ap (form_fits c.args.def.now) (c.in_ok-new.ensures ∙ ap (slot_form g.H.Fileable.form_of) c.in_ok-renewed.ensures.slot) ∙ c.requires.fits

pub returns-in_err-moving-clause-steps : goal.returns-in_err-moving-clause-steps
returns-in_err-moving-clause-steps g c =
    as_many (λ i. pairs c.args.def.now (c.in_ok-old.ensures i) + pairs c.args.def.now ((c.in_ok-new.ensures ∙ ap (slot_form g.H.Fileable.form_of) c.in_ok-renewed.ensures.slot) i))
    (with_edits _ _ _ _ _ c.compiled_slot.ensures.steps c.with_form_for.ensures.steps)

pub returns-in_err-push-clause-steps : goal.returns-in_err-push-clause-steps
returns-in_err-push-clause-steps g c =
    as_many (λ i. pairs c.args.def.now (c.in_ok-old.ensures i) + pairs c.args.def.now ((c.in_ok-new.ensures ∙ ap (slot_form g.H.Fileable.form_of) c.in_ok-renewed.ensures.slot) i))
    (with_edits _ _ _ _ _ c.compiled_slot.ensures.steps c.with_form_for.ensures.steps)

pub returns-clause-forms : goal.returns-clause-forms
returns-clause-forms g c = λ before after is.
    c.in_ok-moving.ensures.forms before after (is ∙ ap (λ f. before ++ f ∷ after) (sym c.in_ok-old.ensures))
    ∙ ap (λ f. before ++ f ∷ after) (c.in_ok-new.ensures ∙ ap (slot_form g.H.Fileable.form_of) c.in_ok-renewed.ensures.slot
    ∙ ap (λ o. renumbered o (g.H.Fileable.form_of (g.C.Compile.hold c.args.compiler.now c.args.item.now))) c.own_ordinal-ordinal.ensures)

pub returns-clause-steps : goal.returns-clause-steps
returns-clause-steps g c =
    as_many (λ i. pairs c.args.def.now (c.in_ok-old.ensures i) + pairs c.args.def.now ((c.in_ok-new.ensures ∙ ap (slot_form g.H.Fileable.form_of) c.in_ok-renewed.ensures.slot) i))
    (with_edits _ _ _ _ _ c.compiled_slot.ensures.steps c.with_form_for.ensures.steps)
