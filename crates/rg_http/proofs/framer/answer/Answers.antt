use Rattle.std.proofs.Common.{subst}
use Rattle.rg_http.specs.Places.{Stands}
use Rattle.rg_http.proofs.Sparing.{placed_ended, placed_cut, placed_bad, placed_fault, placed_begun}
use Rattle.rg_http.proofs.framer.answer.Goals as goal

pub returns-in-Err-clause-answer : goal.returns-in-Err-clause-answer
returns-in-Err-clause-answer g c = placed_fault _ _ _ _ c.in-Err.fault c.find_head.ensures.grows c.in-Err.ensures.place

pub returns-in-Ended-clause-answer : goal.returns-in-Ended-clause-answer
returns-in-Ended-clause-answer g c = placed_ended _ _ _ _ c.find_head.ensures.grows (subst (Stands c.find_head.new.inbox) c.in-Ended.is c.in-Ok.ensures.place)

pub returns-in-Cut-clause-answer : goal.returns-in-Cut-clause-answer
returns-in-Cut-clause-answer g c = placed_cut _ _ _ _ c.find_head.ensures.grows (subst (Stands c.find_head.new.inbox) c.in-Cut.is c.in-Ok.ensures.place)

pub returns-in-Bad-clause-answer : goal.returns-in-Bad-clause-answer
returns-in-Bad-clause-answer g c =
    placed_bad _ _ _ _ c.in-Bad.status c.find_head.ensures.grows (subst (Stands c.find_head.new.inbox) c.in-Bad.is c.in-Ok.ensures.place)

pub returns-in-Begun-clause-answer : goal.returns-in-Begun-clause-answer
returns-in-Begun-clause-answer g c = placed_begun _ _ _ _ _ _ c.finish_message.result c.find_head.ensures.grows c.finish_message.ensures.answer
