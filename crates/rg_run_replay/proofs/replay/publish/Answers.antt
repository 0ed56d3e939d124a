use Rattle.std.proofs.Common.{◌∙◌, sym, subst}
use Rattle.std.proofs.lemmas.Result.{IfOk-weaker}
use Rattle.rg_facts.specs.Sound.{sound}
use Rattle.rg_run_replay.specs.Replay.{AreSound}
use Rattle.rg_run_replay.proofs.Working.{published, unpublished, with_fault, without_fault}
use Rattle.rg_run_replay.proofs.replay.publish.Goals as goal

pub build-requires : goal.build-requires
build-requires c = without_fault (sound c.args.facts) _ c.in-Ok-false.ensures c.in-Ok-false.field-0-test

pub returns-in-Ok-true-clause-made : goal.returns-in-Ok-true-clause-made
returns-in-Ok-true-clause-made c = unpublished c.args.facts (with_fault (sound c.args.facts) _ c.in-Ok-true.ensures c.in-Ok-true.field-0-test)

pub returns-in-Ok-false-clause-made : goal.returns-in-Ok-false-clause-made
returns-in-Ok-false-clause-made c =
    IfOk-weaker c.build.result _ _ (λ e is. is ∙ published c.args.facts (without_fault (sound c.args.facts) _ c.in-Ok-false.ensures c.in-Ok-false.field-0-test)) c.build.ensures

pub returns-in-Ok-false-clause-sound : goal.returns-in-Ok-false-clause-sound
returns-in-Ok-false-clause-sound c =
    IfOk-weaker c.build.result _ _ (λ e is. subst AreSound (sym is) (without_fault (sound c.args.facts) _ c.in-Ok-false.ensures c.in-Ok-false.field-0-test)) c.build.ensures
