use Rattle.std.proofs.Common.{◌≡◌, ◌∙◌, ◌∷◌, [], List, ap, sym, subst}
use Rattle.std.specs.Str.{chars}
use Rattle.rg_hook.specs.Enriching.{EnricherState, Enriching, enriched}
use Rattle.rg_run_script.specs.Hooked.{AreGiven, HaveRunOn, audit_lines, decided_as}
use Rattle.rg_run_script.proofs.Hooks.{all_ran}
use Rattle.rg_run_script.proofs.judging.judge.Goals as goal

pub returns-in-Err-decide-clause-in_part : goal.returns-in-Err-decide-clause-in_part
returns-in-Err-decide-clause-in_part g c = all_ran _ c.args.request.now _ _ c.in-Ok.ensures.ok

pub returns-in-Ok-add_audited-clause-judged : goal.returns-in-Ok-add_audited-clause-judged
returns-in-Ok-add_audited-clause-judged g c = record {
  request = c.enrich.new.request;
  decision = c.in-Ok-decide.decision;
  enriched = subst (λ (es : List EnricherState). enriched (g.H.RequestHooks.enrichers c.args.hooks.now) c.args.request.now ≡ (let x : Enriching = record { enrichers = es; request = c.enrich.new.request } in x))
      (sym c.add_audited.ensures.kept) c.in-Ok.ensures.ok;
  decided = c.in-Ok-decide.ensures.decision;
  printed = c.in-Ok-add_audited.ensures.line;
  given = subst (λ s. AreGiven (audit_lines (decided_as s c.args.request.now c.enrich.new.request c.in-Ok-decide.decision ∷ [])) (g.H.RequestHooks.sinks c.args.hooks.now) (g.H.RequestHooks.sinks c.add_audited.new.hooks))
      (c.service.ensures ∙ ap g.D.Decider.served c.decide.ensures.same)
      (subst (λ old. AreGiven (audit_lines (decided_as (chars c.service.result.now) c.args.request.now c.enrich.new.request c.in-Ok-decide.decision ∷ [])) old (g.H.RequestHooks.sinks c.add_audited.new.hooks)) c.enrich.ensures.unheard (c.in-Ok-add_audited.ensures.given c.args.request.now));
}

pub returns-clause-in_part : goal.returns-clause-in_part
returns-clause-in_part g c =
    subst (HaveRunOn (g.H.RequestHooks.enrichers c.args.hooks.now)) (sym c.add_audited.ensures.kept) (all_ran _ c.args.request.now _ _ c.in-Ok.ensures.ok)
