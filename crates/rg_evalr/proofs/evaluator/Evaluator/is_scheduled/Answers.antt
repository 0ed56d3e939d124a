use Rattle.std.proofs.Common.{◌≡◌, List, map, ap, ◌∙◌}
use Rattle.rg_base.specs.Listed.{Listed}
use Rattle.rg_cond.specs.Spans.{contains, span_of}
use Rattle.rg_cond.specs.declared.spans.Span.{Span}
use Rattle.rg_evalr.proofs.ItemsCompiled.{scheduled}
use Rattle.rg_evalr.specs.Effects.{is_scheduled}
use Rattle.rg_evalr.proofs.evaluator.Evaluator.is_scheduled.Goals as goal

pub returns : goal.returns
returns c =
    let s = c.args.self.now in
    let spans : c.as_slice.result.now ≡ map (span_of s.frame.time_zones) s.policy.schedules.items =
    c.as_slice.ensures ∙ ap (λ (l : Listed Span). l.items) c.self.invariant.spans
    ∙ (λ i. map (span_of (c.self.view_is i).frame.time_zones) (c.self.view_is i).policy.schedules.items) in
    c.is_scheduled.ensures
    ∙ ap (λ (xs : List Span). is_scheduled (λ span. contains span c.args.context.now.request.moment) xs) spans
    ∙ scheduled s.frame c.args.context.now s.policy.schedules.items
