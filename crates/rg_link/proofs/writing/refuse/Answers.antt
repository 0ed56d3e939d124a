use Rattle.std.proofs.Common.{List, ℕ, subst}
use mathlib.Core.List.{IsPrefix}
use Rattle.rg_http.specs.declared.message.Response.{Response}
use Rattle.rg_http.specs.Print.{response_text}
use Rattle.rg_http.specs.Answers.{Wrote}
use Rattle.rg_link.proofs.writing.refuse.Goals as goal

pub returns-in-Ok-clause-ok : goal.returns-in-Ok-clause-ok
returns-in-Ok-clause-ok g c =
    subst (λ (r : Response). Wrote (g.T.Link.held c.args.link.now) (g.T.Link.held c.send.new.link) (response_text r)) c.refusal-response.ensures c.in-Ok.ensures.ok

pub returns-clause-err : goal.returns-clause-err
returns-clause-err g c =
    subst (λ (r : Response). (part : List ℕ) × Wrote (g.T.Link.held c.args.link.now) (g.T.Link.held c.send.new.link) part × IsPrefix part (response_text r)) c.refusal-response.ensures c.in-Err.ensures.err
