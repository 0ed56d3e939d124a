use Rattle.rg_facts_check.proofs.Law.{without_cause}
use Rattle.rg_facts_check.proofs.causes.sound_without_cause.Goals as goal

pub returns : goal.returns
returns c = without_cause
