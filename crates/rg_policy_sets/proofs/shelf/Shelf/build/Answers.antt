use Rattle.std.proofs.Common.{◌≡◌, ◌∙◌, List, true, sym, ap, subst}
use Rattle.std.specs.List.{sum_by}
use Rattle.rg_index.specs.Changes.{forms_fit, ids_differ}
use Rattle.rg_index.specs.Filing.{EditsWithin, pairs}
use Rattle.rg_index.specs.Indexed.{Indexed}
use Rattle.rg_index.specs.declared.form.Form.{Form}
use Rattle.rg_policy_sets.specs.Kept.{are_rising, slot_forms}
use Rattle.rg_policy_sets.proofs.Rising.{forms_differ}
use Rattle.rg_policy_sets.proofs.shelf.Shelf.build.Goals as goal

pub build-requires-clause-apart : goal.build-requires-clause-apart
build-requires-clause-apart g c =
    let form = g.H.Fileable.form_of in
    let formed : c.deref-2.result.now ≡ slot_forms form c.args.slots.items = c.deref-2.ensures.value ∙ c.in_ok-forms.ensures ∙ ap (slot_forms form) c.deref.ensures.value in
    subst (λ (fs : List Form). ids_differ fs ≡ true) (sym formed) (forms_differ form c.args.slots.items c.requires.rising)

pub build-requires-clause-fit : goal.build-requires-clause-fit
build-requires-clause-fit g c =
    let form = g.H.Fileable.form_of in
    let formed : c.deref-2.result.now ≡ slot_forms form c.args.slots.items = c.deref-2.ensures.value ∙ c.in_ok-forms.ensures ∙ ap (slot_forms form) c.deref.ensures.value in
    subst (λ (fs : List Form). forms_fit c.args.def.now fs ≡ true) (sym formed) c.requires.fit

pub returns-in_err-index-clause-steps : goal.returns-in_err-index-clause-steps
returns-in_err-index-clause-steps g c =
    let form = g.H.Fileable.form_of in
    let formed : c.deref-2.result.now ≡ slot_forms form c.args.slots.items = c.deref-2.ensures.value ∙ c.in_ok-forms.ensures ∙ ap (slot_forms form) c.deref.ensures.value in
    subst (λ (fs : List Form). EditsWithin (sum_by (pairs c.args.def.now) fs) c.args.steps.now c.build.new.steps) formed c.build.ensures.steps

pub returns-in_err-slots-clause-steps : goal.returns-in_err-slots-clause-steps
returns-in_err-slots-clause-steps g c =
    let form = g.H.Fileable.form_of in
    let formed : c.deref-2.result.now ≡ slot_forms form c.args.slots.items = c.deref-2.ensures.value ∙ c.in_ok-forms.ensures ∙ ap (slot_forms form) c.deref.ensures.value in
    subst (λ (fs : List Form). EditsWithin (sum_by (pairs c.args.def.now) fs) c.args.steps.now c.build.new.steps) formed c.build.ensures.steps

pub returns-clause-steps : goal.returns-clause-steps
returns-clause-steps g c =
    let form = g.H.Fileable.form_of in
    let formed : c.deref-2.result.now ≡ slot_forms form c.args.slots.items = c.deref-2.ensures.value ∙ c.in_ok-forms.ensures ∙ ap (slot_forms form) c.deref.ensures.value in
    subst (λ (fs : List Form). EditsWithin (sum_by (pairs c.args.def.now) fs) c.args.steps.now c.build.new.steps) formed c.build.ensures.steps

pub invariant_of-result : goal.invariant_of-result
invariant_of-result g c =
    let form = g.H.Fileable.form_of in
    let formed : c.deref-2.result.now ≡ slot_forms form c.args.slots.items = c.deref-2.ensures.value ∙ c.in_ok-forms.ensures ∙ ap (slot_forms form) c.deref.ensures.value in
    (ap (λ (x : Indexed). x.forms) c.in_ok-index.ensures.made ∙ formed ∙ ap (slot_forms form) (sym c.in_ok-slots.ensures), ap are_rising c.in_ok-slots.ensures ∙ c.requires.rising)
