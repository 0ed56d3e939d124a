use Rattle.rg_serve.proofs.Running.{end_is_run}
use Rattle.rg_serve.proofs.laws.ends_are_runs.Goals as goal

pub returns : goal.returns
returns c = end_is_run
