use Rattle.std.proofs.Common.{◌∙◌, Some, ap}
use Rattle.std.proofs.lemmas.Result.{IfOk-weaker}
use Rattle.rg_base.specs.Counts.{Counts}
use Rattle.rg_run_drill.proofs.Carrying.{carried}
use Rattle.rg_run_drill.proofs.drill.carry_on.Goals as goal

pub returns : goal.returns
returns g c =
    IfOk-weaker c.total.result _ _
    (carried (Some c.args.running.now) c.args.seed c.args.policies c.args.requests c.new-generator.result c.prepare.new.generator c.prepare.new.running c.decide_all.new.running
    (c.new-generator.ensures ∙ c.from.ensures) c.in_ok-prepare.ensures.prepared c.in_ok-prepare.ensures.drawn c.in_ok-answers.ensures.same
    c.in_ok-answers.answers c.in_ok-answers.ensures.answers c.prepare.new.steps.tries c.decide_all.new.steps.tries
    (c.prepare.ensures.tries ∙ ap (λ (z : Counts). z.tries) c.counted-steps.ensures) c.in_ok-answers.ensures.tries
    c.ledger-work.result.now c.ledger-work.ensures.tries c.publications.result c.publications.ensures)
    c.total.ensures
