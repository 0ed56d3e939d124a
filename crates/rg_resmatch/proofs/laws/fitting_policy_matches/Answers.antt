use Rattle.rg_resmatch.proofs.Weakening.{without_mandatory}
use Rattle.rg_resmatch.proofs.laws.fitting_policy_matches.Goals as goal

pub returns : goal.returns
returns c = without_mandatory
