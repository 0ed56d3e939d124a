use Rattle.rg_explain_script.specs.Explained.{begins}
use Rattle.rg_explain_script.proofs.Ending.{end_alike}
use Rattle.rg_explain_script.proofs.laws.explained_as_replayed.Goals as goal

pub returns : goal.returns
returns c = λ options lines moments. end_alike (begins options) 1 lines moments
