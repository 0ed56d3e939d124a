use Rattle.std.proofs.Common.{ℕ, List, ◌∙◌, subst}
use Rattle.std.specs.List.{AllZip}
use Rattle.std.specs.Str.{chars}
use Rattle.rg_hook.specs.Told.{IsGiven}
use Rattle.rg_run_script.proofs.Hooks.{audited_one, unaudited}
use Rattle.rg_run_script.proofs.auditing.audit.Goals as goal

pub returns-then-not-decision-clause-given : goal.returns-then-not-decision-clause-given
returns-then-not-decision-clause-given g c = λ asked. unaudited (chars c.args.service.now) asked c.args.request.now c.args.decision.now _ c.if-not-decision.true

pub returns-in-Ok-clause-given : goal.returns-in-Ok-clause-given
returns-in-Ok-clause-given g c =
    let old = g.H.RequestHooks.sinks c.args.hooks.now in
    let new = g.H.RequestHooks.sinks c.audit.new.self in
    let given = subst (λ (line : List ℕ). AllZip (IsGiven line) old new) (c.as_str.ensures.read ∙ c.in-Ok.ensures.text) c.audit.ensures.given in
    λ asked. audited_one (chars c.args.service.now) asked c.args.request.now c.args.decision.now old new c.if-not-decision.false given
