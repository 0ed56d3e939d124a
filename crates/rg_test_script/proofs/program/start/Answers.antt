use Rattle.rg_test_script.proofs.Ending.{ended_so}
use Rattle.rg_test_script.proofs.program.start.Goals as goal

pub returns : goal.returns
returns g c = ended_so _ _ _ _ _ c.from.ensures c.test-status.ensures.answers c.test-status.ensures.usage
