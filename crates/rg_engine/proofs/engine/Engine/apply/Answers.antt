use Rattle.std.proofs.Common.{◌≡◌, false, sym, ap, subst, ◌∙◌, arith}
use Rattle.std.specs.Arc.{arc_value}
use Rattle.rg_zone_rules.specs.Rules.{all_maps_fit}
use Rattle.rg_delta.specs.Applied.{applied, unless_new}
use Rattle.rg_facts.specs.Candidates.{frame_of}
use Rattle.rg_facts.specs.Sound.{sound}
use Rattle.rg_facts.specs.declared.facts.Facts.{Facts}
use Rattle.rg_facts.proofs.Soundness.{lawful, zones_of}
use Rattle.rg_engine.specs.Bounds.{made, pairs_of_changes}
use Rattle.rg_engine.specs.Parts.{Compiled, MayCompile, compiled_after, compiled_of, joined, lists_of}
use Rattle.rg_engine.proofs.Counting.{moved_work, more_work, no_work}
use Rattle.rg_engine.proofs.Parts.{may_compile}
use Rattle.rg_engine.specs.declared.lists.Spares.{Spares}
use Rattle.rg_engine.proofs.engine.Engine.apply.Goals as goal

abbrev no_spares : Spares
no_spares = record { policies = false; tag_policies = false; tag_rows = false }

pub returns-in_err-check_bases-clause-steps : goal.returns-in_err-check_bases-clause-steps
returns-in_err-check_bases-clause-steps g c =
    more_work 0 (made c.args.policies.now.changes.items) 0 (pairs_of_changes c.args.self.now c.args.policies.now c.args.tags.now) c.args.steps.now c.args.steps.now (omega arith) (omega arith) (no_work c.args.steps.now)

pub apply-requires-clause-frame : goal.apply-requires-clause-frame
apply-requires-clause-frame g c = c.frame-frame.ensures ∙ ap frame_of c.deref.ensures ∙ sym (ap (λ (x : Compiled). x.frame) c.self.invariant.1)

pub apply-requires-clause-after : goal.apply-requires-clause-after
apply-requires-clause-after g c =
    subst (λ (x : Compiled). MayCompile x) (sym (λ i. compiled_after ((c.self.invariant.1 ∙ ap compiled_of c.self.view_is) i) (c.as_slice-changes.ensures i) (c.as_slice-rows.ensures i)))
    (may_compile (applied c.args.self.now c.args.policies.now c.args.tags.now c.args.roles.now) c.requires.sound)

pub returns-in_err-sets-clause-steps : goal.returns-in_err-sets-clause-steps
returns-in_err-sets-clause-steps g c =
    moved_work c.args.self.now c.args.policies.now c.args.tags.now c.self.inside.sets c.as_slice-changes.result.now c.as_slice-rows.result.now _ _
    (c.self.invariant.1 ∙ ap compiled_of c.self.view_is) c.as_slice-changes.ensures c.as_slice-rows.ensures c.apply.ensures.steps

pub setup_after-requires-clause-lawful : goal.setup_after-requires-clause-lawful
setup_after-requires-clause-lawful g c = lawful _ c.self.invariant.0

pub setup_after-requires-clause-zones : goal.setup_after-requires-clause-zones
setup_after-requires-clause-zones g c =
    ap (λ (f : Facts). all_maps_fit f.service f.def (unless_new f.zones c.args.policies.now.zones).items) c.self.view_is
    ∙ zones_of (applied c.args.self.now c.args.policies.now c.args.tags.now c.args.roles.now) c.requires.sound

pub returns-in_err-setup-clause-steps : goal.returns-in_err-setup-clause-steps
returns-in_err-setup-clause-steps g c =
    moved_work c.args.self.now c.args.policies.now c.args.tags.now c.self.inside.sets c.as_slice-changes.result.now c.as_slice-rows.result.now _ _
    (c.self.invariant.1 ∙ ap compiled_of c.self.view_is) c.as_slice-changes.ensures c.as_slice-rows.ensures c.apply.ensures.steps

pub invariant_of-result : goal.invariant_of-result
invariant_of-result g c =
    let sets : c.in_ok-sets.sets ≡ compiled_of (applied c.args.self.now c.args.policies.now c.args.tags.now c.args.roles.now) =
    c.in_ok-sets.ensures.made ∙ (λ i. compiled_after ((c.self.invariant.1 ∙ ap compiled_of c.self.view_is) i) (c.as_slice-changes.ensures i) (c.as_slice-rows.ensures i)) in
    let setup : arc_value c.in_ok-setup.setup ≡ _ = c.in_ok-setup.ensures in
    let same : joined (arc_value c.in_ok-setup.setup) (record { policies = c.args.policies.now.to; tags = c.args.tags.now.to; roles = c.args.roles.now.to }) (lists_of no_spares c.in_ok-sets.sets)
    ≡ applied c.args.self.now c.args.policies.now c.args.tags.now c.args.roles.now =
    (λ i. joined (setup i) (record { policies = c.args.policies.now.to; tags = c.args.tags.now.to; roles = c.args.roles.now.to }) (lists_of no_spares (sets i)))
    ∙ ap (λ (f : Facts). joined (record f { zones = unless_new f.zones c.args.policies.now.zones; roles = unless_new f.roles c.args.roles.now.roles })
    (record { policies = c.args.policies.now.to; tags = c.args.tags.now.to; roles = c.args.roles.now.to })
    (lists_of no_spares (compiled_of (applied c.args.self.now c.args.policies.now c.args.tags.now c.args.roles.now)))) c.self.view_is in
    (ap sound same ∙ c.requires.sound, sets ∙ ap compiled_of (sym same))

pub returns-clause-facts : goal.returns-clause-facts
returns-clause-facts g c =
    let sets : c.in_ok-sets.sets ≡ compiled_of (applied c.args.self.now c.args.policies.now c.args.tags.now c.args.roles.now) =
    c.in_ok-sets.ensures.made ∙ (λ i. compiled_after ((c.self.invariant.1 ∙ ap compiled_of c.self.view_is) i) (c.as_slice-changes.ensures i) (c.as_slice-rows.ensures i)) in
    (λ i. joined (c.in_ok-setup.ensures i) (record { policies = c.args.policies.now.to; tags = c.args.tags.now.to; roles = c.args.roles.now.to }) (lists_of no_spares (sets i)))
    ∙ ap (λ (f : Facts). joined (record f { zones = unless_new f.zones c.args.policies.now.zones; roles = unless_new f.roles c.args.roles.now.roles })
    (record { policies = c.args.policies.now.to; tags = c.args.tags.now.to; roles = c.args.roles.now.to })
    (lists_of no_spares (compiled_of (applied c.args.self.now c.args.policies.now c.args.tags.now c.args.roles.now)))) c.self.view_is

pub returns-clause-steps : goal.returns-clause-steps
returns-clause-steps g c =
    moved_work c.args.self.now c.args.policies.now c.args.tags.now c.self.inside.sets c.as_slice-changes.result.now c.as_slice-rows.result.now _ _
    (c.self.invariant.1 ∙ ap compiled_of c.self.view_is) c.as_slice-changes.ensures c.as_slice-rows.ensures c.apply.ensures.steps
