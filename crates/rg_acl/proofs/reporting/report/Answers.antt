use Rattle.std.proofs.Common.{◌∙◌, ap, sym, subst}
use Rattle.rg_acl.specs.Laws.{AreForOthers}
use Rattle.rg_acl.proofs.Told.{for_others}
use Rattle.rg_acl.proofs.reporting.report.Goals as goal

pub returns-clause-others : goal.returns-clause-others
returns-clause-others g c = λ user plain unnamed.
    subst (AreForOthers c.args.engine.now c.args.ask.now user) (sym (ap (λ s. s.items) c.from_vec.ensures ∙ c.in_ok-rows.ensures.rows))
    (for_others c.args.engine.now c.args.ask.now user plain unnamed)
