use Rattle.rg_client.proofs.Telling.{told_after, told_fault}
use Rattle.rg_client.proofs.reading.read_reply.Goals as goal

pub returns-in-Ok-clause-answer : goal.returns-in-Ok-clause-answer
returns-in-Ok-clause-answer g c = told_after _ _ _ _ _ _ c.finish_reply.result c.find_head.ensures.grows c.finish_reply.ensures.answer

pub returns-in-Err-clause-answer : goal.returns-in-Err-clause-answer
returns-in-Err-clause-answer g c = told_fault _ _ _ _ c.in-Err.fault c.find_head.ensures.grows c.in-Err.ensures.place
