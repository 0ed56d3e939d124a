use Rattle.rg_facts.specs.Candidates.{candidates, setting_of}
use Rattle.rg_explain.proofs.Filled.{deciding_cell}
use Rattle.rg_explain.proofs.laws.deciding_cell_is_told.Goals as goal

pub returns : goal.returns
returns c = λ facts q serial. deciding_cell (setting_of facts q) (candidates facts q)
