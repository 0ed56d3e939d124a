use Rattle.std.proofs.Common.{length, sym, ap, subst, ◌∙◌, arith}
use Rattle.std.specs.List.{list_all}
use Rattle.rg_defs.specs.Rules.{def_fault}
use Rattle.rg_resmatch.specs.Rules.{tagged_fit}
use Rattle.rg_tags.specs.declared.row.TagRow.{TagRow}
use Rattle.rg_evalr.specs.Frames.{def_of}
use Rattle.rg_evalr.specs.declared.frame.Frame.{Frame}
use Rattle.rg_evalr.specs.declared.frame.Side.TheVariants.{Resource, Tag}
use Rattle.rg_facts.specs.Sound.{passes}
use Rattle.rg_policy_sets.specs.Seen.{Policies, Rows}
use Rattle.rg_engine.specs.Parts.{IsTagSet}
use Rattle.rg_engine.proofs.Counting.{one_built, three_built, two_built}
use Rattle.rg_engine.proofs.sets.Sets.build.Goals as goal

pub build-requires-clause-lawful : goal.build-requires-clause-lawful
build-requires-clause-lawful g c = ap (λ (f : Frame). def_fault (def_of f Resource)) c.requires.frame ∙ c.requires.may.lawful

pub build-requires-clause-rules : goal.build-requires-clause-rules
build-requires-clause-rules g c = (λ i. list_all (passes (c.requires.frame i) Resource) (c.as_slice-policies.ensures i)) ∙ c.requires.may.rules

pub returns-in_err-policies-clause-steps : goal.returns-in_err-policies-clause-steps
returns-in_err-policies-clause-steps g c = one_built c.args.facts.now c.args.frame.now c.as_slice-policies.result.now c.requires.frame c.as_slice-policies.ensures _ _ c.build.ensures.steps

pub build_tag_policies-requires-clause-lawful : goal.build_tag_policies-requires-clause-lawful
build_tag_policies-requires-clause-lawful g c = ap (λ (f : Frame). def_fault (def_of f Tag)) c.requires.frame ∙ c.requires.may.tag_lawful

pub build_tag_policies-requires-clause-rules : goal.build_tag_policies-requires-clause-rules
build_tag_policies-requires-clause-rules g c = (λ i. list_all (passes (c.requires.frame i) Tag) (c.as_slice-tag_policies.ensures i)) ∙ c.requires.may.tag_rules

pub build_tag_policies-requires-clause-none : goal.build_tag_policies-requires-clause-none
build_tag_policies-requires-clause-none g c = λ none. c.as_slice-tag_policies.ensures ∙ c.requires.may.none (ap (λ (f : Frame). f.tag_def) (sym c.requires.frame) ∙ none)

pub returns-in_err-tag_policies-clause-steps : goal.returns-in_err-tag_policies-clause-steps
returns-in_err-tag_policies-clause-steps g c =
    two_built c.args.facts.now c.args.frame.now c.as_slice-policies.result.now c.requires.frame c.as_slice-policies.ensures c.as_slice-tag_policies.result.now c.as_slice-tag_policies.ensures
    _ _ _ c.build.ensures.steps c.build_tag_policies.ensures.steps

pub build-requires-2-clause-lawful : goal.build-requires-2-clause-lawful
build-requires-2-clause-lawful g c = ap (λ (f : Frame). def_fault f.def) c.requires.frame ∙ c.requires.may.lawful

pub build-requires-2-clause-fit : goal.build-requires-2-clause-fit
build-requires-2-clause-fit g c = (λ i. list_all (λ (row : TagRow). tagged_fit (c.requires.frame i).def row.resources.items) (c.as_slice.ensures i)) ∙ c.requires.may.fit

pub returns-in_err-rows-clause-steps : goal.returns-in_err-rows-clause-steps
returns-in_err-rows-clause-steps g c =
    three_built c.args.facts.now c.args.frame.now c.as_slice-policies.result.now c.requires.frame c.as_slice-policies.ensures c.as_slice-tag_policies.result.now c.as_slice-tag_policies.ensures c.as_slice.result.now c.as_slice.ensures
    _ _ _ _ c.build.ensures.steps c.build_tag_policies.ensures.steps c.build-2.ensures.steps

pub invariant_of-result : goal.invariant_of-result
invariant_of-result g c =
    let own = c.in_ok-policies.ensures.made in (
      ap (λ (x : Policies). x.side) own,
      subst (λ (f : Frame). IsTagSet f c.in_ok-tag_policies.tag_policies) (sym (ap (λ (x : Policies). x.frame) own)) c.in_ok-tag_policies.ensures.set,
      ap (λ (x : Rows). x.def) c.in_ok-rows.ensures.made ∙ sym (ap (λ (x : Policies). x.frame.def) own),
    )

pub returns-clause-made : goal.returns-clause-made
returns-clause-made g c =
    let own = c.in_ok-policies.ensures.made in
    (λ i. record {
      frame = (own i).frame;
      policies = (own i).policies;
      tag_policies = c.in_ok-tag_policies.ensures.policies i;
      rows = (c.in_ok-rows.ensures.made i).rows;
    })
    ∙ (λ i. record {
      frame = c.requires.frame i;
      policies = c.as_slice-policies.ensures i;
      tag_policies = c.as_slice-tag_policies.ensures i;
      rows = c.as_slice.ensures i;
    })

pub returns-clause-compiled : goal.returns-clause-compiled
returns-clause-compiled g c =
    let own = c.in_ok-policies.ensures.compiled in
    let tagged = c.in_ok-tag_policies.ensures.compiled in
    let rows = c.in_ok-rows.ensures.compiled in
    let policies = ap length c.as_slice-policies.ensures in
    let tag_policies = ap length c.as_slice-tag_policies.ensures in
    omega (arith, own, tagged, rows, policies, tag_policies)

pub returns-clause-steps : goal.returns-clause-steps
returns-clause-steps g c =
    three_built c.args.facts.now c.args.frame.now c.as_slice-policies.result.now c.requires.frame c.as_slice-policies.ensures c.as_slice-tag_policies.result.now c.as_slice-tag_policies.ensures c.as_slice.result.now c.as_slice.ensures
    _ _ _ _ c.build.ensures.steps c.build_tag_policies.ensures.steps c.build-2.ensures.steps
