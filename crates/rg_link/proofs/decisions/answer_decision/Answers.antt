use Rattle.std.proofs.Common.{◌∷◌, [], length, inr, refl, sym, ◌∙◌, subst}
use mathlib.Core.List.{IsPrefix}
use Rattle.std.specs.Str.{chars}
use Rattle.rg_http.specs.Print.{response_text}
use Rattle.rg_rest.specs.Responses.{decision_response}
use Rattle.rg_link.specs.Audits.{AreAudited}
use Rattle.rg_link.specs.Loop.{IsJudged, decided}
use Rattle.rg_http.specs.Answers.{Wrote}
use Rattle.rg_http.proofs.Written.{wrote_none}
use Rattle.rg_link.proofs.Steps.{begins_refl}
use Rattle.rg_link.proofs.decisions.answer_decision.Goals as goal

pub returns-in-Err-decision_response-clause-unserved : goal.returns-in-Err-decision_response-clause-unserved
returns-in-Err-decision_response-clause-unserved g c = (
  c.judge.ensures.unheard,
  inr (
    decided c.args.request.now c.judge.new.request (length c.judge.new.pass.list) c.in-Ok.decision,
    [],
    c.in-Ok.ensures.judged,
    wrote_none (g.T.Link.held c.args.link.now),
    (response_text (decision_response c.in-Ok.decision c.args.close), refl),
  ),
)

pub returns-in-Err-send-clause-unserved : goal.returns-in-Err-send-clause-unserved
returns-in-Err-send-clause-unserved g c =
    let x = c.in-Err-send.ensures.err in (
      c.judge.ensures.unheard,
      inr (
        decided c.args.request.now c.judge.new.request (length c.judge.new.pass.list) c.in-Ok.decision,
        x.0,
        c.in-Ok.ensures.judged,
        x.1,
        (subst (λ r. IsPrefix x.0 (response_text r)) c.in-Ok-decision_response.ensures.answer x.2),
      ),
    )

pub returns-in-Ok-audit-clause-served : goal.returns-in-Ok-audit-clause-served
returns-in-Ok-audit-clause-served g c =
    let n = length c.judge.new.pass.list in
    let d = decided c.args.request.now c.judge.new.request n c.in-Ok.decision in (
      d,
      (subst (λ es. IsJudged c.args.pass.now c.judge.new.pass (g.H.RequestHooks.enrichers c.args.hooks.now) es c.args.request.now d) (sym c.audit.ensures.kept) c.in-Ok.ensures.judged),
      (subst (λ r. Wrote (g.T.Link.held c.args.link.now) (g.T.Link.held c.send.new.link) (response_text r)) c.in-Ok-decision_response.ensures.answer c.in-Ok-send.ensures.ok),
      (subst (λ s. AreAudited (chars c.args.deciding.now.plugin.now) (d ∷ []) s (g.H.RequestHooks.sinks c.audit.new.hooks)) c.judge.ensures.unheard (c.in-Ok-audit.ensures.ok c.args.request.now n)),
    )

pub returns-in-Err-audit-clause-unserved : goal.returns-in-Err-audit-clause-unserved
returns-in-Err-audit-clause-unserved g c =
    let d = decided c.args.request.now c.judge.new.request (length c.judge.new.pass.list) c.in-Ok.decision in (
      c.in-Err-audit.ensures.err ∙ c.judge.ensures.unheard,
      inr (
        d,
        response_text (decision_response c.in-Ok.decision c.args.close),
        (subst (λ es. IsJudged c.args.pass.now c.judge.new.pass (g.H.RequestHooks.enrichers c.args.hooks.now) es c.args.request.now d) (sym c.audit.ensures.kept) c.in-Ok.ensures.judged),
        (subst (λ r. Wrote (g.T.Link.held c.args.link.now) (g.T.Link.held c.send.new.link) (response_text r)) c.in-Ok-decision_response.ensures.answer c.in-Ok-send.ensures.ok),
        begins_refl (response_text (decision_response c.in-Ok.decision c.args.close)),
      ),
    )
