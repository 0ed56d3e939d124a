use Rattle.rg_zones.proofs.Deciding.{scalars_from}
use Rattle.rg_zones.proofs.laws.overlap_is_decided.Goals as goal

pub returns-clause-found : goal.returns-clause-found
returns-clause-found c = λ service def a b fa fb ta tb h.
    c.compiled_overlap_is_decided.ensures.found service def a b fa fb (scalars_from c.twin_keeps.ensures.scalars service def a ta) (scalars_from c.twin_keeps.ensures.scalars service def b tb) h
