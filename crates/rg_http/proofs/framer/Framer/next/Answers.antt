use Rattle.std.proofs.Common.{ap, subst}
use Rattle.rg_http.specs.Answers.{Framed}
use Rattle.rg_http.proofs.Sparing.{Answered, Left}
use Rattle.rg_http.proofs.Statuses.{answer_known}
use Rattle.rg_http.proofs.framer.Framer.next.Goals as goal

pub returns-in-Ok-clause-answer : goal.returns-in-Ok-clause-answer
returns-in-Ok-clause-answer g c =
    subst (λ bytes. Answered (g.T.Link.left c.args.link.now) (g.T.Link.left c.answer.new.link) bytes c.in-Ok.next c.answer.new.inbox) (ap (λ (f : Framed). f.bytes) c.self.view_is) c.in-Ok.ensures.answer

pub returns-in-Err-clause-answer : goal.returns-in-Err-clause-answer
returns-in-Err-clause-answer g c =
    subst (λ bytes. Left (g.T.Link.left c.args.link.now) (g.T.Link.left c.answer.new.link) bytes c.in-Err.fault c.answer.new.inbox) (ap (λ (f : Framed). f.bytes) c.self.view_is) c.in-Err.ensures.answer

pub returns-in-Ok-clause-status : goal.returns-in-Ok-clause-status
returns-in-Ok-clause-status g c = answer_known _ _ _ c.in-Ok.ensures.answer.3
