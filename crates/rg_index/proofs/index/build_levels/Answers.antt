use Rattle.std.proofs.Common.{◌<◌, ℕ, List, length, ◌∙◌, arith}
use Rattle.std.specs.List.{sum_by}
use Rattle.rg_defs.specs.declared.service_def.Level.{Level}
use Rattle.rg_index.specs.declared.form.Form.{Form}
use Rattle.rg_index.specs.Kept.{built, level_keys}
use Rattle.rg_index.proofs.Filling.{mapped_more, sum_more, sum_upto}
use Rattle.rg_index.proofs.index.build_levels.Goals as goal

abbrev keys_of_all : List Form → Level → ℕ
keys_of_all forms l = sum_by (λ (f : Form). length (level_keys l f)) forms

pub returns-in_err-built-clause-steps : goal.returns-in_err-built-clause-steps
returns-in_err-built-clause-steps g c =
    let xs = c.args.levels.now in
    let i = c.loop-level.level-index in
    let within : i < length xs = omega arith in
    sum_upto (keys_of_all c.args.forms.now) xs i c.level-item.result c.args.steps.now c.loop-level.steps c.build.new.steps within c.level-item.is c.loop-level.invariant.counted c.build.ensures.steps

pub returns-in_err-push-clause-steps : goal.returns-in_err-push-clause-steps
returns-in_err-push-clause-steps g c =
    let xs = c.args.levels.now in
    let i = c.loop-level.level-index in
    let within : i < length xs = omega arith in
    sum_upto (keys_of_all c.args.forms.now) xs i c.level-item.result c.args.steps.now c.loop-level.steps c.build.new.steps within c.level-item.is c.loop-level.invariant.counted c.build.ensures.steps

pub loop-level-preserved : goal.loop-level-preserved
loop-level-preserved g c =
    let xs = c.args.levels.now in
    let i = c.loop-level.level-index in
    let x = c.level-item.result in
    let within : i < length xs = omega arith in
    record {
      so_far = c.in_ok-push.ensures.items ∙ mapped_more (built c.args.forms.now) xs c.loop-level.list.items i x c.in_ok-built.built c.loop-level.invariant.so_far c.in_ok-built.ensures.built within c.level-item.is;
      counted = sum_more (keys_of_all c.args.forms.now) xs i x c.args.steps.now c.loop-level.steps c.build.new.steps within c.level-item.is c.loop-level.invariant.counted c.build.ensures.steps;
    }
