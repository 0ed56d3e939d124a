use Rattle.std.proofs.Common.{◌≡◌, ap, sym, ◌∙◌}
use Rattle.std.specs.List.{flat_map}
use Rattle.rg_facts.specs.Best.{after, none_yet, outcome_by}
use Rattle.rg_facts.specs.Candidates.{Setting, resource_candidates, setting_of, tag_candidates, tags_of}
use Rattle.rg_facts.specs.declared.best.Pass.TheVariants.{Access, All, Choices}
use Rattle.rg_facts.specs.declared.facts.Facts.{Facts}
use Rattle.rg_facts.proofs.Passes.{outcome_denied, outcome_found}
use Rattle.rg_plain_engine.proofs.plain.Plain.outcome.Goals as goal

pub returns-then-not-allows : goal.returns-then-not-allows
returns-then-not-allows c =
    let facts = c.args.self.now in
    let q = c.args.request.now in
    let tagged : c.ask_tag_policies-best.result ≡ after All (setting_of facts q) (flat_map (tag_candidates facts) (tags_of facts q)) none_yet =
    c.ask_tag_policies-best.ensures ∙ ap (λ (s : Setting). after All s (flat_map (tag_candidates facts) (tags_of facts s.request)) none_yet) c.setting-setting.ensures in
    let asked : c.ask_resource_policies-best.result ≡ after Access (setting_of facts q) (resource_candidates facts) (after All (setting_of facts q) (flat_map (tag_candidates facts) (tags_of facts q)) none_yet) =
    c.ask_resource_policies-best.ensures
    ∙ ap (λ (s : Setting). after Access s (resource_candidates facts) c.ask_tag_policies-best.result) c.setting-setting.ensures
    ∙ ap (after Access (setting_of facts q) (resource_candidates facts)) tagged in
    c.outcome.ensures
    ∙ ap (λ (f : Facts). outcome_by f.fallback c.ask_resource_policies-best.result) c.self.view_is
    ∙ sym (outcome_denied facts q c.ask_resource_policies-best.result asked (c.allows.ensures facts.fallback ∙ c.if-not-allows.true))

pub returns : goal.returns
returns c =
    let facts = c.args.self.now in
    let q = c.args.request.now in
    let s = setting_of facts q in
    let tagged : c.ask_tag_policies-best.result ≡ after All (setting_of facts q) (flat_map (tag_candidates facts) (tags_of facts q)) none_yet =
    c.ask_tag_policies-best.ensures ∙ ap (λ (x : Setting). after All x (flat_map (tag_candidates facts) (tags_of facts x.request)) none_yet) c.setting-setting.ensures in
    c.outcome-2.ensures
    ∙ ap (λ (f : Facts). outcome_by f.fallback c.ask_resource_policies-best-2.result) c.self.view_is
    ∙ ap (outcome_by facts.fallback) (
    c.ask_resource_policies-best-2.ensures
    ∙ ap (λ (x : Setting). after Choices x (resource_candidates facts) c.ask_resource_policies-best.result) c.setting-setting.ensures
    ∙ ap (after Choices (setting_of facts q) (resource_candidates facts)) (
    c.ask_resource_policies-best.ensures
    ∙ ap (λ (x : Setting). after Access x (resource_candidates facts) c.ask_tag_policies-best.result) c.setting-setting.ensures
    ∙ ap (after Access (setting_of facts q) (resource_candidates facts)) tagged))
    ∙ sym (outcome_found facts q)
