use Rattle.rg_run_serve.proofs.Readied.{asked_more}
use Rattle.rg_run_serve.proofs.preparing.ask_all.Goals as goal

pub loop-ask-preserved : goal.loop-ask-preserved
loop-ask-preserved g c =
    asked_more _ c.loop-ask.opened c.ask.new.self c.loop-ask.yielded c.in-Some.ask c.in_ok-reply.reply _ _ c.loop-ask.invariant c.in_ok-reply.ensures
    c.in_ok-add_reply.ensures
