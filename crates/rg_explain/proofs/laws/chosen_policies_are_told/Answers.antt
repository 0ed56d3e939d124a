use Rattle.rg_facts.specs.Candidates.{candidates, setting_of}
use Rattle.rg_explain.proofs.Chosen.{told_from, told_there}
use Rattle.rg_explain.proofs.laws.chosen_policies_are_told.Goals as goal

pub returns-clause-all : goal.returns-clause-all
returns-clause-all c = λ facts q serial d there chosen. told_there (setting_of facts q) (candidates facts q) d there chosen

pub returns-clause-alone : goal.returns-clause-alone
returns-clause-alone c = λ facts q serial t within. told_from (setting_of facts q) (candidates facts q) t within
