use Rattle.std.proofs.Common.{inr}
use Rattle.rg_link.proofs.Steps.{call_unserved}
use Rattle.rg_link.proofs.calls.answer_call.Goals as goal

pub returns-in-Err-clause-unserved : goal.returns-in-Err-clause-unserved
returns-in-Err-clause-unserved g c = call_unserved _ _ _ _ _ _ c.in-Err.ensures.uncalled

pub returns-clause-unserved : goal.returns-clause-unserved
returns-clause-unserved g c =
    let x = c.in-Err-send.ensures.err in
    inr (c.in-Ok.response, x.0, c.in-Ok.ensures.called, x.1, x.2)
