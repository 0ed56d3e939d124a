use Rattle.std.proofs.Common.{◌≡◌, true, sym, ap, subst, ◌∙◌}
use Rattle.rg_facts.specs.Best.{none_yet, outcome_by}
use Rattle.rg_facts.specs.Candidates.{Setting, candidates, setting_of}
use Rattle.rg_facts.specs.Sound.{sound}
use Rattle.rg_facts.specs.declared.facts.Facts.{Facts}
use Rattle.rg_facts.proofs.Soundness.{ids_of}
use Rattle.rg_engine.specs.Asked.{Finds}
use Rattle.rg_engine.specs.Bounds.{TriesWithin, bound_on}
use Rattle.rg_engine.specs.Parts.{compiled_of}
use Rattle.rg_engine.proofs.Found.{found_outcome}
use Rattle.rg_engine.proofs.engine.Engine.outcome.Goals as goal

pub ask-best-requires : goal.ask-best-requires
ask-best-requires g c = ap (λ (s : Setting). s.request.resource) (sym c.setting-setting.ensures)

pub returns-clause-outcome : goal.returns-clause-outcome
returns-clause-outcome g c =
    let facts = c.args.self.now in
    let q = c.args.request.now in
    let view = c.self.view_is in
    let setting : c.setting-setting.result ≡ setting_of facts q = c.setting-setting.ensures ∙ ap (λ (f : Facts). setting_of f q) c.deref.ensures ∙ ap (λ (f : Facts). setting_of f q) view in
    let sound_facts : sound facts ≡ true = subst (λ (f : Facts). sound f ≡ true) view c.self.invariant.0 in
    let found : Finds (setting_of facts q) (candidates facts q) none_yet c.ask-best.result =
    subst (λ (s : Setting). Finds s (candidates facts s.request) none_yet c.ask-best.result) setting (c.ask-best.ensures.best facts (c.self.invariant.1 ∙ ap compiled_of view)) in
    c.outcome.ensures
    ∙ ap (λ b. outcome_by b c.ask-best.result) (c.fallback.ensures ∙ ap (λ (f : Facts). f.fallback) c.deref-2.ensures ∙ ap (λ (f : Facts). f.fallback) view)
    ∙ found_outcome facts q c.ask-best.result c.order_plays_no_part.ensures.candidates c.order_plays_no_part.ensures.best (ids_of facts sound_facts) found

pub returns-clause-tries : goal.returns-clause-tries
returns-clause-tries g c =
    let facts = c.args.self.now in
    let setting : c.setting-setting.result.request ≡ c.args.request.now = ap (λ (s : Setting). s.request) c.setting-setting.ensures in
    subst (λ q. TriesWithin (bound_on facts q) c.args.steps.now c.ask-best.new.steps) setting (c.ask-best.ensures.tries facts (c.self.invariant.1 ∙ ap compiled_of c.self.view_is))
