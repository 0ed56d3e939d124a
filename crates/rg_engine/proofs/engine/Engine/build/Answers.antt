use Rattle.std.proofs.Common.{◌≡◌, sym, ap, ◌∙◌, arith}
use Rattle.std.specs.Arc.{arc_value}
use Rattle.rg_defs.specs.Rules.{def_fault}
use Rattle.rg_zone_rules.specs.Rules.{all_maps_fit}
use Rattle.rg_facts.specs.Candidates.{frame_of}
use Rattle.rg_facts.specs.Sound.{sound}
use Rattle.rg_facts.specs.declared.facts.Facts.{Facts}
use Rattle.rg_facts.proofs.Soundness.{lawful, zones_of}
use Rattle.rg_engine.specs.Bounds.{pairs_in, policies_in}
use Rattle.rg_engine.specs.Parts.{compiled_of, joined, lists_of}
use Rattle.rg_engine.proofs.Counting.{more_work, no_work}
use Rattle.rg_engine.proofs.Parts.{may_compile}
use Rattle.rg_engine.proofs.engine.Engine.build.Goals as goal

pub returns-in_err-frame-clause-steps : goal.returns-in_err-frame-clause-steps
returns-in_err-frame-clause-steps g c = more_work 0 (policies_in c.args.facts) 0 (pairs_in c.args.facts) c.args.steps.now c.args.steps.now (omega arith) (omega arith) (no_work c.args.steps.now)

pub build-requires-clause-frame : goal.build-requires-clause-frame
build-requires-clause-frame g c = c.in_ok-frame.ensures

pub build-requires-clause-may : goal.build-requires-clause-may
build-requires-clause-may g c = may_compile c.args.facts c.requires

pub build-requires-2-clause-frame : goal.build-requires-2-clause-frame
build-requires-2-clause-frame g c = c.in_ok-frame.ensures ∙ sym (ap frame_of c.clear.ensures)

pub build-requires-2-clause-lawful : goal.build-requires-2-clause-lawful
build-requires-2-clause-lawful g c = ap (λ (f : Facts). def_fault f.def) c.clear.ensures ∙ lawful c.args.facts c.requires

pub build-requires-2-clause-zones : goal.build-requires-2-clause-zones
build-requires-2-clause-zones g c = ap (λ (f : Facts). all_maps_fit f.service f.def f.zones.items) c.clear.ensures ∙ zones_of c.args.facts c.requires

pub invariant_of-result : goal.invariant_of-result
invariant_of-result g c =
    let lists : lists_of c.of-spares.result c.in_ok-sets.sets ≡ _ = ap (lists_of c.of-spares.result) c.in_ok-sets.ensures.made ∙ c.of-spares.ensures in
    let same : joined (arc_value c.in_ok-setup.setup) c.of-versions.result (lists_of c.of-spares.result c.in_ok-sets.sets) ≡ c.args.facts =
    (λ i. joined ((c.in_ok-setup.ensures.ok ∙ c.in_ok-build.ensures ∙ c.clear.ensures) i) (c.of-versions.ensures i) (lists i)) in
    (ap sound same ∙ c.requires, c.in_ok-sets.ensures.made ∙ ap compiled_of (sym same))

pub returns-clause-facts : goal.returns-clause-facts
returns-clause-facts g c =
    let lists : lists_of c.of-spares.result c.in_ok-sets.sets ≡ _ = ap (lists_of c.of-spares.result) c.in_ok-sets.ensures.made ∙ c.of-spares.ensures in
    (λ i. joined ((c.in_ok-setup.ensures.ok ∙ c.in_ok-build.ensures ∙ c.clear.ensures) i) (c.of-versions.ensures i) (lists i))
