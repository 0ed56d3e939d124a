use Rattle.rg_explain_script.proofs.Ending.{ended_so}
use Rattle.rg_explain_script.proofs.machine.start.Goals as goal

pub returns : goal.returns
returns g c = ended_so _ _ _ c.from.ensures (_, _, c.explain-status.ensures.answers)
