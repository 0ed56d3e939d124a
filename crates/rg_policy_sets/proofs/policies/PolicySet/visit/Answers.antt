use Rattle.std.proofs.Common.{ap, slice_get, ◌∙◌}
use Rattle.rg_base.specs.Listed.{Listed}
use Rattle.rg_defs.specs.Rules.{def_fault}
use Rattle.rg_defs.specs.declared.service_def.Level.{Level}
use Rattle.rg_evalr.specs.Frames.{def_of}
use Rattle.rg_policy_sets.specs.Marks.{asked_at}
use Rattle.rg_policy_sets.specs.Seen.{Policies}
use Rattle.rg_policy_sets.proofs.Marking.{admitting}
use Rattle.rg_policy_sets.proofs.Sets.{all_visits, among_visits, few_visits}
use Rattle.rg_policy_sets.proofs.policies.PolicySet.visit.Goals as goal

pub returns-clause-few : goal.returns-clause-few
returns-clause-few c =
    few_visits c.args.self.now c.self.inside.frame.value c.self.inside.side c.self.inside.shelf c.self.view_is c.self.invariant.0 c.args.resource.now.elements.items c.candidates.result
    c.slots.result.now c.slots.ensures.slots c.at-first.result c.at-second.result c.of.result c.of.ensures c.candidates.ensures.found

pub returns-clause-among : goal.returns-clause-among
returns-clause-among c =
    among_visits c.args.self.now c.self.inside.frame.value c.self.inside.side c.self.inside.shelf c.self.view_is c.self.invariant.0 c.args.resource.now.elements.items c.candidates.result
    c.slots.result.now c.slots.ensures.slots c.at-first.result c.at-second.result c.of.result c.of.ensures

pub returns-clause-all : goal.returns-clause-all
returns-clause-all c =
    all_visits c.args.self.now c.self.inside.frame.value c.self.inside.side c.self.inside.shelf c.self.view_is c.self.invariant.0 c.args.resource.now.elements.items c.candidates.result
    c.slots.result.now c.slots.ensures.slots c.at-first.result c.at-second.result c.of.result c.of.ensures c.candidates.ensures.found
    (admitting c.lying_policies_agree.ensures c.self.inside.frame.value c.self.inside.side c.as_slice-levels.result.now c.args.resource.now.elements.items c.at-first.result c.at-second.result
    (c.as_slice-levels.ensures ∙ ap (λ (s : Listed Level). s.items) (c.deref.ensures ∙ c.self.invariant.1)) (ap (λ (s : Policies). def_fault (def_of s.frame s.side)) c.self.view_is ∙ c.law_of_definition.ensures)
    (c.at-first.ensures ∙ ap (asked_at (slice_get c.as_slice-levels.result.now 0)) c.as_slice-elements.ensures) (c.at-second.ensures ∙ ap (asked_at (slice_get c.as_slice-levels.result.now 1)) c.as_slice-elements.ensures))
