use Rattle.std.proofs.Common.{ℕ, List, ◌∙◌, subst}
use Rattle.std.specs.List.{AllZip}
use Rattle.std.specs.Str.{chars}
use Rattle.rg_hook.specs.Told.{IsGiven}
use Rattle.rg_link.proofs.Steps.{audited_one, unaudited}
use Rattle.rg_link.proofs.audit.audit.Goals as goal

pub returns-then-not-decision-clause-ok : goal.returns-then-not-decision-clause-ok
returns-then-not-decision-clause-ok g c = λ asked serial. unaudited (chars c.args.plugin.now) asked c.args.request.now serial c.args.decision.now _ c.if-not-decision.true

pub returns-in-Ok-clause-ok : goal.returns-in-Ok-clause-ok
returns-in-Ok-clause-ok g c =
    let old = g.H.RequestHooks.sinks c.args.hooks.now in
    let new = g.H.RequestHooks.sinks c.audit.new.self in
    let given = subst (λ (line : List ℕ). AllZip (IsGiven line) old new) (c.as_str.ensures.read ∙ c.in-Ok.ensures.text) c.audit.ensures.given in
    λ asked serial. audited_one (chars c.args.plugin.now) asked c.args.request.now serial c.args.decision.now old new c.if-not-decision.false given
