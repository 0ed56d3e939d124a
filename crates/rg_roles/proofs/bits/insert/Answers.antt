use Rattle.rg_roles.proofs.Sets.{has_insert}
use Rattle.rg_roles.proofs.bits.insert.Goals as goal

pub returns-clause-all : goal.returns-clause-all
returns-clause-all c = has_insert c.args.words.now c.args.place c.requires
