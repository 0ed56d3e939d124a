use Rattle.std.proofs.lemmas.Result.{IfOk-weaker}
use Rattle.rg_run_script.proofs.Decided.{decided_now}
use Rattle.rg_run_script.proofs.current.decide_now.Goals as goal

pub returns : goal.returns
returns c = IfOk-weaker c.decide.result _ _
    (λ d is. decided_now c.args.admin.now c.args.request.now c.in_ok-facts.facts c.in_ok-engine.engine d c.in_ok-facts.ensures.view c.in_ok-engine.ensures is) c.decide.ensures
