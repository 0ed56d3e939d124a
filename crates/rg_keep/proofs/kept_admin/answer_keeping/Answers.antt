use Rattle.std.proofs.Common.{◌≡◌, ◌∙◌, true, ap, sym}
use Rattle.std.proofs.lemmas.Result.{IfOk-weaker, on_err_weaker}
use Rattle.rg_keep.specs.Replay.{is_kept}
use Rattle.rg_keep.specs.declared.kept_admin.Answered.{Answered}
use Rattle.rg_keep.proofs.Adding.{gains_one, kept_by_reply, passes_gain}
use Rattle.rg_keep.proofs.kept_admin.answer_keeping.Goals as goal

pub returns-then-is_refused-clause-is_kept : goal.returns-then-is_refused-clause-is_kept
returns-then-is_refused-clause-is_kept g c =
    ap (λ (r : Answered). r.is_kept) c.unkept.ensures
    ∙ kept_by_reply c.args.admin.now _ c.args.ask c.in_ok-reply.reply true c.in_ok-reply.ensures.ok c.requires.keeps (sym c.is_refused.ensures ∙ c.if-is_refused.true)

pub returns-clause-is_kept : goal.returns-clause-is_kept
returns-clause-is_kept g c =
    let kept : is_kept c.args.admin.now c.args.ask ≡ true =
    sym (kept_by_reply c.args.admin.now _ c.args.ask c.in_ok-reply.reply _ c.in_ok-reply.ensures.ok c.requires.keeps (sym c.is_refused.ensures ∙ c.if-is_refused.false)) in
    IfOk-weaker c.keep_record.result _ _ (λ r is. is.1 ∙ sym kept) c.keep_record.ensures.answered

pub returns-clause-stopped : goal.returns-clause-stopped
returns-clause-stopped g c =
    let kept : is_kept c.args.admin.now c.args.ask ≡ true =
    sym (kept_by_reply c.args.admin.now _ c.args.ask c.in_ok-reply.reply _ c.in_ok-reply.ensures.ok c.requires.keeps (sym c.is_refused.ensures ∙ c.if-is_refused.false)) in
    on_err_weaker c.keep_record.result (λ may. gains_one _ _ _ _ kept may) c.keep_record.ensures.refused

pub returns-clause-moments : goal.returns-clause-moments
returns-clause-moments g c =
    let kept : is_kept c.args.admin.now c.args.ask ≡ true =
    sym (kept_by_reply c.args.admin.now _ c.args.ask c.in_ok-reply.reply _ c.in_ok-reply.ensures.ok c.requires.keeps (sym c.is_refused.ensures ∙ c.if-is_refused.false)) in
    passes_gain _ _ _ _ _ _ _ kept c.keep_record.ensures.moments
