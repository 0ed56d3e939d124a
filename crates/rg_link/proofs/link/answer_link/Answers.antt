use Rattle.std.proofs.Common.{◌∙◌}
use Rattle.rg_link.proofs.link.answer_link.Goals as goal

pub knows-requires : goal.knows-requires
knows-requires g c = c.in-Ok.ensures.served.leads.turn ∙ c.requires

pub knows-requires-in-Err : goal.knows-requires-in-Err
knows-requires-in-Err g c = c.in-Err.ensures.broken.leads.turn ∙ c.requires

pub returns-in-Ok-clause-same : goal.returns-in-Ok-clause-same
returns-in-Ok-clause-same g c = (c.in-Ok.ensures.served.leads.turn, c.in-Ok.ensures.served.leads.publisher)

pub returns-in-Ok-clause-begins : goal.returns-in-Ok-clause-begins
returns-in-Ok-clause-begins g c = (c.in-Ok.ensures.served.leads.history, c.in-Ok.ensures.served.leads.list)

pub returns-in-Err-clause-same : goal.returns-in-Err-clause-same
returns-in-Err-clause-same g c = (c.in-Err.ensures.broken.leads.turn, c.in-Err.ensures.broken.leads.publisher)

pub returns-in-Err-clause-begins : goal.returns-in-Err-clause-begins
returns-in-Err-clause-begins g c = (c.in-Err.ensures.broken.leads.history, c.in-Err.ensures.broken.leads.list)
