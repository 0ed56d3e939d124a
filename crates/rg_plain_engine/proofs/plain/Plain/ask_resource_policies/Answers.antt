use Rattle.std.proofs.Common.{◌≡◌, List, None, map, ap, sym, ◌∙◌}
use Rattle.rg_base.specs.Listed.{Listed}
use Rattle.rg_evalr.specs.Sources.{Source}
use Rattle.rg_evalr.specs.declared.frame.Side.TheVariants.{Resource}
use Rattle.rg_facts.specs.Best.{after}
use Rattle.rg_facts.specs.Candidates.{Candidate, frame_of, resource_candidates}
use Rattle.rg_facts.specs.Engines.{asked_for}
use Rattle.rg_plain_engine.specs.Compiled.{sources_of}
use Rattle.rg_plain_engine.proofs.Listing.{candidates_are, policies_are}
use Rattle.rg_plain_engine.proofs.plain.Plain.ask_resource_policies.Goals as goal

pub ask_policies-requires : goal.ask_policies-requires
ask_policies-requires c =
    let held = c.self.inside.held in
    let sources : c.as_slice-2.result.now ≡ sources_of (frame_of held) Resource held.policies.items = c.as_slice-2.ensures ∙ ap (λ (l : Listed Source). l.items) c.self.invariant.3.evaluators in
    ap (map (λ (s : Source). s.policy)) sources ∙ policies_are (frame_of held) Resource held.policies.items ∙ sym c.as_slice.ensures

pub returns : goal.returns
returns c =
    let held = c.self.inside.held in
    let sources : c.as_slice-2.result.now ≡ sources_of (frame_of held) Resource held.policies.items = c.as_slice-2.ensures ∙ ap (λ (l : Listed Source). l.items) c.self.invariant.3.evaluators in
    let asked : asked_for None c.as_slice-2.result.now ≡ resource_candidates c.args.self.now =
    ap (asked_for None) sources ∙ candidates_are (frame_of held) Resource None held.policies.items ∙ ap resource_candidates c.self.view_is in
    c.ask_policies.ensures ∙ ap (λ (cs : List Candidate). after c.args.pass c.args.setting.now cs c.args.best) asked
