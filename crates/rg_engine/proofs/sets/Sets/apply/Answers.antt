use Rattle.std.proofs.Common.{◌≡◌, true, sym, ap, subst, ◌∙◌}
use Rattle.std.specs.List.{fold, list_all}
use Rattle.std.specs.Ordering.{int_eq}
use Rattle.rg_base.specs.Texts.{all_distinct}
use Rattle.rg_resmatch.specs.Rules.{tagged_fit}
use Rattle.rg_defs.specs.declared.service_def.ServiceDef.{ServiceDef}
use Rattle.rg_tags.specs.declared.row.TagRow.{TagRow}
use Rattle.rg_delta.specs.Applied.{rows_after, tag_policies_after}
use Rattle.rg_evalr.specs.declared.frame.Frame.{Frame}
use Rattle.rg_evalr.specs.declared.frame.Side.{Side}
use Rattle.rg_evalr.specs.declared.frame.Side.TheVariants.{Tag}
use Rattle.rg_facts.specs.Sound.{passes, row_ids, same_id}
use Rattle.rg_policy_sets.specs.Bounds.{side_after}
use Rattle.rg_policy_sets.specs.Seen.{Policies, Rows}
use Rattle.rg_engine.specs.Parts.{Compiled, IsTagSet, MayCompile, compiled_after, tag_policies_of}
use Rattle.rg_engine.proofs.Counting.{one_moved, three_moved, two_moved}
use Rattle.rg_engine.proofs.sets.Sets.apply.Goals as goal

pub apply-requires-clause-same : goal.apply-requires-clause-same
apply-requires-clause-same g c = c.requires.frame ∙ sym (ap (λ (x : Compiled). x.frame) c.self.view_is)

pub apply-requires-clause-rules : goal.apply-requires-clause-rules
apply-requires-clause-rules g c =
    let own = c.self.inside.policies in
    let after = subst (λ (x : Compiled). MayCompile (compiled_after x c.args.policies.now c.args.tags.now)) (sym c.self.view_is) c.requires.after in
    subst (λ (v : Side). list_all (passes own.frame v) (fold (side_after v) own.policies c.args.policies.now) ≡ true) (sym c.self.invariant.0) after.rules

pub apply-requires-clause-distinct : goal.apply-requires-clause-distinct
apply-requires-clause-distinct g c =
    let own = c.self.inside.policies in
    let after = subst (λ (x : Compiled). MayCompile (compiled_after x c.args.policies.now c.args.tags.now)) (sym c.self.view_is) c.requires.after in
    subst (λ (v : Side). all_distinct same_id (fold (side_after v) own.policies c.args.policies.now) ≡ true) (sym c.self.invariant.0) after.apart

pub returns-in_err-own-clause-steps : goal.returns-in_err-own-clause-steps
returns-in_err-own-clause-steps g c =
    let view = c.self.view_is in
    one_moved c.args.self.now c.self.inside.policies.frame c.args.frame.now c.self.inside.policies.side c.self.inside.policies.policies (tag_policies_of c.self.inside.tag_policies) c.args.policies.now c.args.tags.now
    c.self.invariant.0 (ap (λ (x : Compiled). x.frame) view) c.requires.frame (ap (λ (x : Compiled). x.policies) view) (ap (λ (x : Compiled). x.tag_policies) view) _ _ c.apply.ensures.steps

pub apply_tag_policies-requires-clause-set : goal.apply_tag_policies-requires-clause-set
apply_tag_policies-requires-clause-set g c =
    subst (λ (f : Frame). IsTagSet f c.self.inside.tag_policies) (ap (λ (x : Compiled). x.frame) c.self.view_is ∙ sym c.requires.frame) c.self.invariant.1

pub apply_tag_policies-requires-clause-rules : goal.apply_tag_policies-requires-clause-rules
apply_tag_policies-requires-clause-rules g c =
    (λ i. list_all (passes (c.requires.frame i) Tag) (fold tag_policies_after (c.self.view_is i).tag_policies c.args.policies.now)) ∙ c.requires.after.tag_rules

pub apply_tag_policies-requires-clause-distinct : goal.apply_tag_policies-requires-clause-distinct
apply_tag_policies-requires-clause-distinct g c =
    ap (λ (x : Compiled). all_distinct same_id (fold tag_policies_after x.tag_policies c.args.policies.now)) c.self.view_is ∙ c.requires.after.tag_apart

pub apply_tag_policies-requires-clause-none : goal.apply_tag_policies-requires-clause-none
apply_tag_policies-requires-clause-none g c = λ none.
    ap (λ (x : Compiled). fold tag_policies_after x.tag_policies c.args.policies.now) c.self.view_is
    ∙ c.requires.after.none (ap (λ (f : Frame). f.tag_def) (sym c.requires.frame) ∙ none)

pub returns-in_err-tag_policies-clause-steps : goal.returns-in_err-tag_policies-clause-steps
returns-in_err-tag_policies-clause-steps g c =
    let view = c.self.view_is in
    two_moved c.args.self.now c.self.inside.policies.frame c.args.frame.now c.self.inside.policies.side c.self.inside.policies.policies (tag_policies_of c.self.inside.tag_policies) c.args.policies.now c.args.tags.now
    c.self.invariant.0 (ap (λ (x : Compiled). x.frame) view) c.requires.frame (ap (λ (x : Compiled). x.policies) view) (ap (λ (x : Compiled). x.tag_policies) view) _ _ _ c.apply.ensures.steps c.apply_tag_policies.ensures.steps

pub apply-requires-2-clause-same : goal.apply-requires-2-clause-same
apply-requires-2-clause-same g c =
    ap (λ (f : Frame). f.def) c.requires.frame ∙ sym (ap (λ (x : Compiled). x.frame.def) c.self.view_is) ∙ sym c.self.invariant.2

pub apply-requires-2-clause-fit : goal.apply-requires-2-clause-fit
apply-requires-2-clause-fit g c =
    let after = subst (λ (x : Compiled). MayCompile (compiled_after x c.args.policies.now c.args.tags.now)) (sym c.self.view_is) c.requires.after in
    subst (λ (d : ServiceDef). list_all (λ (row : TagRow). tagged_fit d row.resources.items) (fold rows_after c.self.inside.rows.rows c.args.tags.now) ≡ true) (sym c.self.invariant.2) after.fit

pub apply-requires-2-clause-distinct : goal.apply-requires-2-clause-distinct
apply-requires-2-clause-distinct g c =
    ap (λ (x : Compiled). all_distinct int_eq (row_ids (fold rows_after x.rows c.args.tags.now))) c.self.view_is ∙ c.requires.after.rows_apart

pub returns-in_err-rows-clause-steps : goal.returns-in_err-rows-clause-steps
returns-in_err-rows-clause-steps g c =
    let view = c.self.view_is in
    three_moved c.args.self.now c.self.inside.policies.frame c.args.frame.now c.self.inside.policies.side c.self.inside.policies.policies (tag_policies_of c.self.inside.tag_policies) c.args.policies.now c.args.tags.now
    c.self.invariant.0 (ap (λ (x : Compiled). x.frame) view) c.requires.frame (ap (λ (x : Compiled). x.policies) view) (ap (λ (x : Compiled). x.tag_policies) view)
    c.self.inside.rows.def c.self.inside.rows.rows _ _ _ _ (c.self.invariant.2 ∙ ap (λ (x : Compiled). x.frame.def) view) (ap (λ (x : Compiled). x.rows) view) c.apply.ensures.steps c.apply_tag_policies.ensures.steps c.apply-2.ensures.steps

pub invariant_of-result : goal.invariant_of-result
invariant_of-result g c =
    let own = c.in_ok-own.ensures.made in (
      ap (λ (x : Policies). x.side) own ∙ c.self.invariant.0,
      subst (λ (f : Frame). IsTagSet f c.in_ok-tag_policies.tag_policies) (c.requires.frame ∙ sym (ap (λ (x : Compiled). x.frame) c.self.view_is) ∙ sym (ap (λ (x : Policies). x.frame) own)) c.in_ok-tag_policies.ensures.set,
      ap (λ (x : Rows). x.def) c.in_ok-rows.ensures.made ∙ c.self.invariant.2 ∙ sym (ap (λ (x : Policies). x.frame.def) own),
    )

pub returns-clause-made : goal.returns-clause-made
returns-clause-made g c =
    let own = subst (λ (v : Side). c.in_ok-own.own ≡ record { frame = c.self.inside.policies.frame; side = v; policies = fold (side_after v) c.self.inside.policies.policies c.args.policies.now }) c.self.invariant.0 c.in_ok-own.ensures.made in
    (λ i. record {
      frame = (own i).frame;
      policies = (own i).policies;
      tag_policies = c.in_ok-tag_policies.ensures.policies i;
      rows = (c.in_ok-rows.ensures.made i).rows;
    })
    ∙ ap (λ (x : Compiled). compiled_after x c.args.policies.now c.args.tags.now) c.self.view_is

pub returns-clause-steps : goal.returns-clause-steps
returns-clause-steps g c =
    let view = c.self.view_is in
    three_moved c.args.self.now c.self.inside.policies.frame c.args.frame.now c.self.inside.policies.side c.self.inside.policies.policies (tag_policies_of c.self.inside.tag_policies) c.args.policies.now c.args.tags.now
    c.self.invariant.0 (ap (λ (x : Compiled). x.frame) view) c.requires.frame (ap (λ (x : Compiled). x.policies) view) (ap (λ (x : Compiled). x.tag_policies) view)
    c.self.inside.rows.def c.self.inside.rows.rows _ _ _ _ (c.self.invariant.2 ∙ ap (λ (x : Compiled). x.frame.def) view) (ap (λ (x : Compiled). x.rows) view) c.apply.ensures.steps c.apply_tag_policies.ensures.steps c.apply-2.ensures.steps
