use Rattle.rg_facts.proofs.Soundness.{lawful, zones_of}
use Rattle.rg_plain_engine.proofs.building.zones_of.Goals as goal

pub build-requires-clause-lawful : goal.build-requires-clause-lawful
build-requires-clause-lawful c = lawful c.args.facts.now c.requires

pub build-requires-clause-fit : goal.build-requires-clause-fit
build-requires-clause-fit c = rw (c.as_str.ensures.read, c.as_slice.ensures) (zones_of c.args.facts.now c.requires)
