use Rattle.std.proofs.Common.{◌≡◌, [], true, false, sym, ap, subst, ◌∙◌, List}
use Rattle.std.specs.Str.{chars}
use Rattle.rg_policy.specs.declared.policy.ResourceMap.{ResourceMap}
use Rattle.rg_resmatch.specs.declared.reach.Reach.TheVariants.{Down}
use Rattle.rg_resmatch.specs.Matching.{Matching}
use Rattle.rg_resmatch.specs.Rules.{all_levels_fit, all_values_fit}
use Rattle.rg_resmatch.specs.Tests.{some_lies}
use Rattle.rg_zone_rules.specs.Zones.{zone_maps}
use Rattle.rg_zones.proofs.Fitting.{fit_levels, fit_values, matched}
use Rattle.rg_zones.proofs.map.compile_zone.Goals as goal

pub compile-requires-clause-levels : goal.compile-requires-clause-levels
compile-requires-clause-levels c =
    let e : c.as_slice.result.now ≡ zone_maps (chars c.args.service.now) c.args.def.now c.args.zone.now = cc c.in_ok-maps.ensures in
    subst (λ (ms : List ResourceMap). all_levels_fit c.args.def.now false ms ≡ true) (sym e) (fit_levels (chars c.args.service.now) c.args.def.now c.args.zone.now c.requires.fit)

pub compile-requires-clause-values : goal.compile-requires-clause-values
compile-requires-clause-values c =
    let e : c.as_slice.result.now ≡ zone_maps (chars c.args.service.now) c.args.def.now c.args.zone.now = cc c.in_ok-maps.ensures in
    subst (λ (ms : List ResourceMap). all_values_fit c.args.def.now ms ≡ true) (sym e) (fit_values (chars c.args.service.now) c.args.def.now c.args.zone.now c.requires.fit)

pub returns-clause-matched : goal.returns-clause-matched
returns-clause-matched c = λ elements.
    let service = chars c.args.service.now in
    let def = c.args.def.now in
    let e : c.as_slice.result.now ≡ zone_maps service def c.args.zone.now = cc c.in_ok-maps.ensures in
    ap (λ (m : Matching). some_lies m.def m.maps m.reach elements []) c.in_ok-matcher.ensures
    ∙ ap (λ (ms : List ResourceMap). some_lies def ms Down elements []) e
    ∙ matched service def c.args.zone.now elements
