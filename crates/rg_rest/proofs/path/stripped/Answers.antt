use Rattle.rg_rest.proofs.Paths.{strips}
use Rattle.rg_rest.proofs.path.stripped.Goals as goal

pub returns : goal.returns
returns c = strips c.args.text.now c.args.path.now c.strip_prefix.result c.strip_prefix.ensures.cases
