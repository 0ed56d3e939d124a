use Rattle.std.proofs.Common.{ap, ◌∙◌}
use Rattle.std.specs.List.{flat_map}
use Rattle.rg_policy.specs.declared.request.Resource.{Resource}
use Rattle.rg_facts.specs.Best.{none_yet}
use Rattle.rg_facts.specs.Candidates.{resource_candidates, tag_candidates, tags_of}
use Rattle.rg_engine.specs.Parts.{Compiled}
use Rattle.rg_engine.proofs.Found.{finds_both}
use Rattle.rg_engine.proofs.Tagged.{is_own_set, tries_of_all}
use Rattle.rg_engine.proofs.sets.Sets.ask.Goals as goal

pub ask_tag_policies-best-requires : goal.ask_tag_policies-best-requires
ask_tag_policies-best-requires g c = c.requires

pub ask_policies-requires-clause-side : goal.ask_policies-requires-clause-side
ask_policies-requires-clause-side g c = c.self.invariant.0

pub ask_policies-requires-clause-resource : goal.ask_policies-requires-clause-resource
ask_policies-requires-clause-resource g c = c.requires

pub returns-clause-best : goal.returns-clause-best
returns-clause-best g c = λ facts same.
    let s = c.args.setting.now in
    let view = c.self.view_is ∙ same in
    finds_both s (flat_map (tag_candidates facts) (tags_of facts s.request)) (resource_candidates facts) none_yet c.ask_tag_policies-best.result c.ask_policies.result
    (c.ask_tag_policies-best.ensures.best facts same)
    (is_own_set s facts c.self.inside.policies c.ask_tag_policies-best.result c.ask_policies.result (ap (λ (x : Compiled). x.frame) view) c.self.invariant.0 (ap (λ (x : Compiled). x.policies) view) c.ask_policies.ensures.best)

pub returns-clause-tries : goal.returns-clause-tries
returns-clause-tries g c = λ facts same.
    let view = c.self.view_is ∙ same in
    tries_of_all facts c.args.setting.now.request c.self.inside.policies c.args.resource.now.elements.items _ _ _
    (ap (λ (x : Compiled). x.frame) view) c.self.invariant.0 (ap (λ (x : Compiled). x.policies) view) (ap (λ (r : Resource). r.elements.items) c.requires)
    (c.ask_tag_policies-best.ensures.tries facts same) c.ask_policies.ensures.tries
