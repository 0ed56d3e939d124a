use Rattle.std.proofs.Common.{◌∙◌, ℕ, List, length, map, sym, ap, subst}
use Rattle.std.specs.List.{sum_by}
use Rattle.rg_defs.specs.declared.service_def.Level.{Level}
use Rattle.rg_index.specs.declared.form.Form.{Form}
use Rattle.rg_index.specs.Filing.{EditsWithin, pairs}
use Rattle.rg_index.specs.Indexed.{Indexed}
use Rattle.rg_index.specs.Kept.{IsIndexed, built, level_keys}
use Rattle.rg_index.proofs.Filling.{more_allowed}
use Rattle.rg_index.proofs.Indexing.{built_within, forms_written, is_built}
use Rattle.rg_index.proofs.index.Index.build.Goals as goal

abbrev keys_of_all : List Form → Level → ℕ
keys_of_all forms l = sum_by (λ (f : Form). length (level_keys l f)) forms

pub build_levels-requires : goal.build_levels-requires
build_levels-requires g c = forms_written c.args.def.now c.args.forms.now c.requires.fit

pub returns-in_err-levels-clause-steps : goal.returns-in_err-levels-clause-steps
returns-in_err-levels-clause-steps g c =
    let def = c.args.def.now in
    let forms = c.args.forms.now in
    more_allowed (sum_by (keys_of_all forms) def.levels.items) (sum_by (pairs def) forms) c.args.steps.now c.build_levels.new.steps (built_within def c.requires.lawful forms)
    (subst (λ (levels : List Level). EditsWithin (sum_by (keys_of_all forms) levels) c.args.steps.now c.build_levels.new.steps) c.as_slice.ensures c.build_levels.ensures.steps)

pub returns-clause-steps : goal.returns-clause-steps
returns-clause-steps g c =
    let def = c.args.def.now in
    let forms = c.args.forms.now in
    more_allowed (sum_by (keys_of_all forms) def.levels.items) (sum_by (pairs def) forms) c.args.steps.now c.build_levels.new.steps (built_within def c.requires.lawful forms)
    (subst (λ (levels : List Level). EditsWithin (sum_by (keys_of_all forms) levels) c.args.steps.now c.build_levels.new.steps) c.as_slice.ensures c.build_levels.ensures.steps)

pub invariant_of-result : goal.invariant_of-result
invariant_of-result g c =
    let def = c.args.def.now in
    let forms = c.args.forms.now in
    let levels = c.in_ok-levels.levels.items in
    let made = is_built def c.requires.lawful forms levels c.requires.apart c.requires.fit (c.in_ok-levels.ensures.built ∙ ap (map (built forms)) c.as_slice.ensures) in
    (c.empty.ensures, subst (λ (x : Indexed). IsIndexed x.def x.forms levels) (sym c.of.ensures) made)
