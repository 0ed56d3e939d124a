use Rattle.std.proofs.Common.{◌++◌, ◌∷◌, [], sym, ap, ◌∙◌}
use Rattle.std.proofs.lemmas.List.{map-append}
use Rattle.std.specs.List.{list_any}
use Rattle.rg_index.specs.Changes.{form_fits, same_id}
use Rattle.rg_index.specs.Filing.{pairs}
use Rattle.rg_index.specs.declared.form.Form.{Form}
use Rattle.rg_policy_sets.specs.Kept.{Placed, slot_form, slot_forms}
use Rattle.rg_policy_sets.specs.Moved.{are_below}
use Rattle.rg_policy_sets.proofs.Counting.{with_edits}
use Rattle.rg_policy_sets.proofs.Reshelved.{as_many, compiled_alone, none_named, one_fits, one_passes}
use Rattle.rg_policy_sets.proofs.moving.add_at.Goals as goal

pub compiled_slot-requires : goal.compiled_slot-requires
compiled_slot-requires g c =
    one_passes (g.C.Compile.passes c.args.compiler.now) c.args.def.now g.H.Fileable.form_of (g.C.Compile.hold c.args.compiler.now) c.args.item.now c.requires.fits

pub returns-in_err-slot-clause-steps : goal.returns-in_err-slot-clause-steps
returns-in_err-slot-clause-steps g c = compiled_alone c.compiled_slot.ensures.steps

pub returns-in_err-form-clause-steps : goal.returns-in_err-form-clause-steps
returns-in_err-form-clause-steps g c = compiled_alone c.compiled_slot.ensures.steps

pub with_form-requires-clause-free : goal.with_form-requires-clause-free
with_form-requires-clause-free g c =
    ap (list_any (same_id c.in_ok-form.form)) c.requires.forms
    ∙ none_named g.H.Fileable.form_of c.in_ok-form.form c.args.moving.now.slots
    (ap (λ o. are_below o c.args.moving.now.slots) (ap (λ (f : Form). f.id) c.in_ok-form.ensures ∙ ap (λ (s : Placed g.row.H.Denot). s.ordinal) c.in_ok-slot.ensures.slot) ∙ c.requires.below)

pub with_form-requires-clause-fit : goal.with_form-requires-clause-fit
with_form-requires-clause-fit g c =
    ap (form_fits c.args.def.now) (c.in_ok-form.ensures ∙ ap (slot_form g.H.Fileable.form_of) c.in_ok-slot.ensures.slot)
    ∙ one_fits (g.C.Compile.passes c.args.compiler.now) c.args.def.now g.H.Fileable.form_of (g.C.Compile.hold c.args.compiler.now) c.args.item.now c.requires.fits

pub returns-in_err-moving-clause-steps : goal.returns-in_err-moving-clause-steps
returns-in_err-moving-clause-steps g c =
    as_many (ap (pairs c.args.def.now) (c.in_ok-form.ensures ∙ ap (slot_form g.H.Fileable.form_of) c.in_ok-slot.ensures.slot)) (with_edits _ _ _ _ _ c.compiled_slot.ensures.steps c.with_form.ensures.steps)

pub returns-in_err-push-clause-steps : goal.returns-in_err-push-clause-steps
returns-in_err-push-clause-steps g c =
    as_many (ap (pairs c.args.def.now) (c.in_ok-form.ensures ∙ ap (slot_form g.H.Fileable.form_of) c.in_ok-slot.ensures.slot)) (with_edits _ _ _ _ _ c.compiled_slot.ensures.steps c.with_form.ensures.steps)

pub returns-clause-forms : goal.returns-clause-forms
returns-clause-forms g c =
    c.in_ok-moving.ensures.forms
    ∙ (λ i. c.requires.forms i ++ c.in_ok-form.ensures i ∷ [])
    ∙ sym (map-append (slot_form g.H.Fileable.form_of) c.args.moving.now.slots (c.in_ok-slot.slot ∷ []))
    ∙ ap (slot_forms g.H.Fileable.form_of) (sym c.in_ok-push.ensures)

pub returns-clause-steps : goal.returns-clause-steps
returns-clause-steps g c =
    as_many (ap (pairs c.args.def.now) (c.in_ok-form.ensures ∙ ap (slot_form g.H.Fileable.form_of) c.in_ok-slot.ensures.slot)) (with_edits _ _ _ _ _ c.compiled_slot.ensures.steps c.with_form.ensures.steps)
