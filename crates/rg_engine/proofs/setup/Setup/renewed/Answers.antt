use Rattle.std.proofs.Common.{◌≡◌, IfOk, ap, subst, ◌∙◌}
use Rattle.rg_defs.specs.Rules.{def_fault}
use Rattle.rg_zone_rules.specs.Rules.{all_maps_fit}
use Rattle.rg_delta.specs.Applied.{unless_new}
use Rattle.rg_facts.specs.declared.facts.Facts.{Facts}
use Rattle.rg_engine.proofs.setup.Setup.renewed.Goals as goal

pub build-requires-clause-frame : goal.build-requires-clause-frame
build-requires-clause-frame c = c.in_ok-frame.ensures

pub build-requires-clause-lawful : goal.build-requires-clause-lawful
build-requires-clause-lawful c = ap (λ (f : Facts). def_fault f.def) (c.in_ok-facts.ensures ∙ c.self.view_is) ∙ c.requires.lawful

pub build-requires-clause-zones : goal.build-requires-clause-zones
build-requires-clause-zones c =
    let same = c.in_ok-facts.ensures ∙ c.self.view_is in
    let zones = c.in_ok-take_new.ensures ∙ ap (λ (f : Facts). unless_new f.zones c.args.zones.now) same in
    (λ i. all_maps_fit (same i).service (same i).def (zones i).items) ∙ c.requires.zones

pub returns : goal.returns
returns c =
    let same = c.in_ok-facts.ensures ∙ c.self.view_is in
    let zones = c.in_ok-take_new.ensures ∙ ap (λ (f : Facts). unless_new f.zones c.args.zones.now) same in
    let roles = c.in_ok-take_new-2.ensures ∙ ap (λ (f : Facts). unless_new f.roles c.args.roles.now) same in
    subst (λ (x : Facts). IfOk c.build.result (λ s. s ≡ x)) (λ i. record (same i) { zones = zones i; roles = roles i }) c.build.ensures
