use Rattle.std.proofs.Common.{◌<◌, length, refl, ◌∙◌, arith}
use Rattle.std.proofs.lemmas.List.{length-set}
use Rattle.rg_roles.proofs.Sets.{include_more}
use Rattle.rg_roles.proofs.bits.include.Goals as goal

pub loop-at-preserved : goal.loop-at-preserved
loop-at-preserved c =
    let within : c.loop-at.at < length c.args.others.now = omega arith in
    let kept = c.loop-at.invariant.0 in
    let wide : c.loop-at.at < length c.loop-at.words = omega (arith, c.requires) in (
      length-set c.loop-at.words c.loop-at.at _ ∙ kept,
      include_more c.args.words.now c.loop-at.words c.args.others.now c.loop-at.at _ wide within refl c.loop-at.invariant.1,
    )
