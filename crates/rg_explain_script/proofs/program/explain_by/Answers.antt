use Rattle.rg_explain_script.proofs.Ending.{by_options}
use Rattle.rg_explain_script.proofs.program.explain_by.Goals as goal

pub returns : goal.returns
returns g c = by_options _ _ _ _ _ c.new-explaining.ensures c.work_script-status.ensures.run
