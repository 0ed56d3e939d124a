use Rattle.std.proofs.Common.{rules, ◌≡◌, ◌||◌, ◌+◌, ◌-◌, true, false, not, length, take, drop, position, Some, None, suc, sym, ap, ◌∙◌, add-one}
use Rattle.std.specs.List.{list_all, list_any}
use Rattle.rg_cmd.specs.Lookups.{is_zone}
use Rattle.rg_validate.proofs.Apart.{all_values_suit, apart_among, apart_beside, drop_passes, rest_is, take_passes}
use Rattle.rg_validate.specs.Apart.{meets_zone}
use Rattle.rg_validate.specs.Zones.{zone_values_suit}
use Rattle.rg_validate.proofs.zone_apart.zone_is_apart.Goals as goal

pub meets_some-requires-clause-other_values : goal.meets_some-requires-clause-other_values
meets_some-requires-clause-other_values c =
    ap (list_all zone_values_suit) c.as_slice-zones.ensures ∙ all_values_suit c.args.state.now c.args.state.now.zones.items c.requires.valid.zones

pub returns-in_default : goal.returns-in_default
returns-in_default c =
    let s = c.args.state.now in
    let zone = c.args.zone.now in
    let none : position (is_zone zone.name) s.zones.items ≡ None = search rules in
    let any : c.in_ok-meets_some.field-0 ≡ list_any (meets_zone s zone) s.zones.items = search rules in
    ap not any ∙ sym (apart_among s zone c.requires.valid c.requires.services c.zone_overlap_is_symmetric.ensures c.zones_apart_by_pairs.ensures none)

pub meets_some-requires-2-clause-other_values : goal.meets_some-requires-2-clause-other_values
meets_some-requires-2-clause-other_values c =
    let s = c.args.state.now in
    ap (λ zs. list_all zone_values_suit (take c.in-Some.place zs)) c.as_slice-zones.ensures
    ∙ take_passes zone_values_suit c.in-Some.place s.zones.items (all_values_suit s s.zones.items c.requires.valid.zones)

pub returns-then-branch : goal.returns-then-branch
returns-then-branch c =
    let s = c.args.state.now in
    let zone = c.args.zone.now in
    let place = c.in-Some.place in
    let at : position (is_zone zone.name) s.zones.items ≡ Some place = search rules in
    let any : list_any (meets_zone s zone) (take place s.zones.items) ≡ true = search rules in
    sym (apart_beside s zone c.requires.valid c.requires.services c.zone_overlap_is_symmetric.ensures c.zones_apart_by_pairs.ensures place at
    ∙ ap (λ b. not (b || list_any (meets_zone s zone) (drop (suc place) s.zones.items))) any)

pub meets_some-requires-3-clause-other_values : goal.meets_some-requires-3-clause-other_values
meets_some-requires-3-clause-other_values c =
    let s = c.args.state.now in
    let n = c.in-Some.place + 1 in
    ap (λ zs. list_all zone_values_suit (take (length zs - n) (drop n zs))) c.as_slice-zones.ensures
    ∙ take_passes zone_values_suit (length s.zones.items - n) (drop n s.zones.items) (drop_passes zone_values_suit n s.zones.items (all_values_suit s s.zones.items c.requires.valid.zones))

pub returns : goal.returns
returns c =
    let s = c.args.state.now in
    let zone = c.args.zone.now in
    let zones = s.zones.items in
    let place = c.in-Some.place in
    let n = place + 1 in
    let f = meets_zone s zone in
    let at : position (is_zone zone.name) zones ≡ Some place = search rules in
    let before : list_any f (take place zones) ≡ false = search rules in
    let after : c.in_ok-meets_some-3.field-0 ≡ list_any f (take (length zones - (place + 1)) (drop (place + 1) zones)) = search rules in
    sym (apart_beside s zone c.requires.valid c.requires.services c.zone_overlap_is_symmetric.ensures c.zones_apart_by_pairs.ensures place at
    ∙ ap (λ b. not (b || list_any f (drop (suc place) zones))) before
    ∙ ap (λ zs. not (list_any f zs)) (ap (λ m. drop m zones) (sym (add-one place)) ∙ sym (rest_is n zones))
    ∙ ap not (sym after))
