use Rattle.std.proofs.Common.{◌≡◌, List, Some, length, map, ap, sym, ◌∙◌}
use Rattle.std.proofs.lemmas.Bool.{eqb-true}
use Rattle.std.specs.List.{flat_map}
use Rattle.rg_base.specs.Listed.{Listed}
use Rattle.rg_policy.specs.declared.tags.Tag.{Tag}
use Rattle.rg_evalr.specs.Sources.{Source}
use Rattle.rg_evalr.specs.declared.frame.Side.TheVariants.{Tag as Tagged}
use Rattle.rg_facts.specs.Best.{after, none_yet}
use Rattle.rg_facts.specs.Candidates.{Candidate, frame_of, tag_candidates, tags_of}
use Rattle.rg_facts.specs.Engines.{asked_for}
use Rattle.rg_facts.specs.declared.best.Pass.TheVariants.{All}
use Rattle.rg_facts.specs.declared.facts.Facts.{Facts}
use Rattle.rg_plain_engine.specs.Compiled.{sources_of}
use Rattle.rg_plain_engine.proofs.Listing.{all_candidates_are, no_candidates, policies_are}
use Rattle.rg_plain_engine.proofs.plain.Plain.ask_tag_policies.Goals as goal

pub returns-then-is_empty : goal.returns-then-is_empty
returns-then-is_empty c =
    let held = c.self.inside.held in
    let s = c.args.setting.now in
    let none : length held.tag_policies.items ≡ 0 = eqb-true (length held.tag_policies.items) 0 (sym c.is_empty.ensures ∙ c.if-is_empty.true) in
    c.none.ensures
    ∙ ap (λ (cs : List Candidate). after All s cs none_yet) (sym (no_candidates held (tags_of held s.request) none))
    ∙ ap (λ (facts : Facts). after All s (flat_map (tag_candidates facts) (tags_of facts s.request)) none_yet) c.self.view_is

pub ask_rows-requires-clause-policies : goal.ask_rows-requires-clause-policies
ask_rows-requires-clause-policies c =
    let held = c.self.inside.held in
    ap (map (λ (s : Source). s.policy)) (c.as_slice.ensures ∙ ap (λ (l : Listed Source). l.items) c.self.invariant.3.tag_evaluators)
    ∙ policies_are (frame_of held) Tagged held.tag_policies.items

pub returns : goal.returns
returns c =
    let held = c.self.inside.held in
    let s = c.args.setting.now in
    let sources : c.as_slice.result.now ≡ sources_of (frame_of held) Tagged held.tag_policies.items = c.as_slice.ensures ∙ ap (λ (l : Listed Source). l.items) c.self.invariant.3.tag_evaluators in
    c.ask_rows.ensures
    ∙ ap (λ (xs : List Source). after All s (flat_map (λ (tag : Tag). asked_for (Some tag) xs) (tags_of held s.request)) none_yet) sources
    ∙ ap (λ (cs : List Candidate). after All s cs none_yet) (all_candidates_are held (tags_of held s.request))
    ∙ ap (λ (facts : Facts). after All s (flat_map (tag_candidates facts) (tags_of facts s.request)) none_yet) c.self.view_is
