use Rattle.rg_rest.proofs.Knowing.{at_takes, bytes_from}
use Rattle.rg_rest.proofs.path.Paths.at.Goals as goal

pub returns-in-Ok : goal.returns-in-Ok
returns-in-Ok c = at_takes c.self.inside.patterns _ c.args.path.now (bytes_from c.args.path.now c.type_inv.path) c.self.invariant c.in-Ok.ensures.found
