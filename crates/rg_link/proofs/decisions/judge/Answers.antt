use Rattle.std.proofs.Common.{inr}
use Rattle.rg_link.proofs.Steps.{has_run_all}
use Rattle.rg_link.proofs.decisions.judge.Goals as goal

pub returns-in-Err-decide-clause-unjudged : goal.returns-in-Err-decide-clause-unjudged
returns-in-Err-decide-clause-unjudged g c = record {
  publisher = c.decide.ensures.same;
  list = c.decide.ensures.begins;
  answered = c.in-Err-decide.ensures.unanswered;
  run = inr (c.args.request.now, has_run_all _ c.args.request.now _ _ c.in-Ok.ensures.ok);
}
