use Rattle.rg_zones.proofs.Deciding.{zones_found, zones_shown}
use Rattle.rg_zones.proofs.laws.compiled_overlap_is_decided.Goals as goal

pub returns-clause-shown : goal.returns-clause-shown
returns-clause-shown c = λ service def a b fa fb z. zones_shown c.stands_is_decided.ensures c.overlap_is_decided.ensures.shown c.twin_keeps.ensures.user service def a b fa fb z

pub returns-clause-found : goal.returns-clause-found
returns-clause-found c = λ service def a b fa fb sa sb h.
    zones_found c.stands_is_decided.ensures c.overlap_is_decided.ensures.found c.user_plays_no_part.ensures.some c.twin_keeps.ensures.user service def a b fa fb sa sb h
