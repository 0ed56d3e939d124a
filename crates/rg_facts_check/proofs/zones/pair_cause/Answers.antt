use Rattle.rg_facts_check.proofs.zones.pair_cause.Goals as goal

pub overlap_cause-requires : goal.overlap_cause-requires
overlap_cause-requires c = rw c.facts.ensures c.requires
