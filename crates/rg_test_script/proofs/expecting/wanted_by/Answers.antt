use Rattle.std.proofs.Common.{codes}
use Rattle.rg_test_script.specs.Expecting.{expecting}
use Rattle.rg_test_script.proofs.Behind.{strips}
use Rattle.rg_test_script.proofs.expecting.wanted_by.Goals as goal

pub returns : goal.returns
unfolding expecting
returns c = strips (codes "# expect ") c.args.line.now c.strip_prefix.result c.strip_prefix.ensures.cases
