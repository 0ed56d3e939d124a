use Rattle.std.proofs.Common.{◌<◌, ◌+◌, ℕ, Option, length, option_map, arith}
use Rattle.rg_index.specs.declared.form.Form.{Form}
use Rattle.rg_index.specs.Kept.{LevelPairs, given_keys}
use Rattle.rg_index.proofs.Filling.{sum_upto}
use Rattle.rg_index.proofs.index.edit_levels.Goals as goal

abbrev keys_of_both : Option Form → Option Form → LevelPairs → ℕ
keys_of_both old new t = length (given_keys t.level old) + length (given_keys t.level new)

pub returns-in_err-push-clause-steps : goal.returns-in_err-push-clause-steps
returns-in_err-push-clause-steps g c =
    let old = option_map (λ f. f.now) c.args.old in
    let new = option_map (λ f. f.now) c.args.new in
    let xs = c.args.levels.now in
    let i = c.loop-level.level-index in
    let within : i < length xs = omega arith in
    sum_upto (keys_of_both old new) xs i c.level-item.result c.args.steps.now c.loop-level.steps c.edited.new.steps within c.level-item.is c.loop-level.invariant.counted c.edited.ensures.steps
