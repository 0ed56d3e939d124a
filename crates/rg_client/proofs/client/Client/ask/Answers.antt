use Rattle.std.proofs.Common.{[], sym, subst, append-nil}
use Rattle.std.specs.Str.{chars}
use Rattle.rg_http.specs.Answers.{Wrote}
use Rattle.rg_client.specs.Questions.{question_text}
use Rattle.rg_client.proofs.client.Client.ask.Goals as goal

pub returns-in-Err-clause-begun : goal.returns-in-Err-clause-begun
returns-in-Err-clause-begun g c =
    let q = c.args.question.now in
    let text = question_text (chars q.target.now) (chars q.host.now) (chars q.user.now) in
    (text, subst (λ k. Wrote (g.T.Link.held c.args.link.now) k text) (sym c.in-Err.ensures.unwritten) c.in_ok-send.ensures.ok, ([], append-nil text))
