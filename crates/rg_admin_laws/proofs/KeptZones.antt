-- For proofs alone: zones that are put or taken away keep a state valid.
use Rattle.std.proofs.Common.{◌≡◌, ◌||◌, ℕ, Bool, true, not, is_none, Contains, List, None, refl, ap, sym, ◌∙◌}
use Rattle.std.specs.List.{filter, list_any}
use Rattle.std.specs.Str.{bytes_eq}
use Rattle.std.proofs.lemmas.Bool.{and_from, and_parts}
use Rattle.std.proofs.lemmas.Slice.Eq.{bytes_eq-Decides}
use Rattle.rg_base.proofs.Lists.{Contains-filter, all_holds, any_from, any_holds}
use Rattle.rg_base.specs.Texts.{all_distinct, is_empty}
use Rattle.rg_policy.specs.declared.policy.Policy.{Policy}
use Rattle.rg_defs.specs.declared.service_def.ServiceDef.{ServiceDef}
use Rattle.rg_zone_rules.specs.Overlap.{first_overlap, zones_overlap}
use Rattle.rg_zone_rules.specs.Rules.{is_zone_of, lists_service, policy_zone_fits}
use Rattle.rg_zone_rules.specs.declared.row.ZoneRow.{ZoneRow}
use Rattle.rg_cmd.specs.Lists.{put, without}
use Rattle.rg_cmd.specs.Lookups.{def_of, is_tag_service, is_zone}
use Rattle.rg_cmd.specs.declared.ask.AdminCommand.TheVariants.{DeleteZone, PutZone}
use Rattle.rg_cmd.specs.declared.rule.Rule.TheVariants.{Z2, Z3, Z4, Z5, Z7, Z8}
use Rattle.rg_cmd.specs.declared.state.ServiceRow.{ServiceRow}
use Rattle.rg_cmd.specs.declared.state.State.{State}
use Rattle.rg_validate.specs.Failing.{first_failing}
use Rattle.rg_validate.specs.Policies.{zone_fits}
use Rattle.rg_validate.specs.Rules.{command_rules}
use Rattle.rg_validate.specs.Valid.{zone_valid}
use Rattle.rg_validate.specs.Zones.{are_apart, are_apart_for, zone_is_unused, zone_keeps, zone_keeps_policies, zone_levels_suit, zone_services_fit, zone_subjects_exist, zone_values_suit}
use Rattle.rg_admin_laws.proofs.Lists.{all_weaker, any_put, case, distinct_filtered, none_passes, not_true}
use Rattle.rg_admin_laws.proofs.Parts.{under_on}
use Rattle.rg_admin_laws.proofs.Passing.{passed_at}

-- a zone that passes its rules is valid
pub zone_passes : (s : State) (z : ZoneRow) → first_failing (command_rules s (PutZone z)) ≡ None → zone_valid s z ≡ true
zone_passes s z h =
    let at = passed_at (command_rules s (PutZone z)) h in
    and_from (zone_services_fit s z) _ (at 1 (Z2, zone_services_fit s z) refl)
    (and_from (zone_levels_suit s z) _ (at 2 (Z3, zone_levels_suit s z) refl)
    (and_from (zone_values_suit z) (zone_subjects_exist s z) (at 3 (Z4, zone_values_suit z) refl) (at 4 (Z5, zone_subjects_exist s z) refl)))

-- a policy's zone lists its service after a zone was put
pub zone_fits_put : (s : State) (z : ZoneRow) → first_failing (command_rules s (PutZone z)) ≡ None → (p : Policy) → Contains s.policies.items p → zone_fits s p ≡ true
    → policy_zone_fits (is_tag_service s p.service) p.service (put (is_zone z.name) z s.zones.items) p ≡ true
zone_fits_put s z h p there fits =
    let tag = is_tag_service s p.service in
    let keeps = all_holds (zone_keeps s z) s.policies.items (passed_at (command_rules s (PutZone z)) h 6 (Z7, zone_keeps_policies s z) refl) p there in
    case (λ b. (b || list_any (is_zone_of tag p.service p.zone) s.zones.items) ≡ true → (b || list_any (is_zone_of tag p.service p.zone) (put (is_zone z.name) z s.zones.items)) ≡ true) (is_empty p.zone)
    (λ _ _. refl)
    (λ _ some. any_put (is_zone_of tag p.service p.zone) (is_zone z.name) z (λ y same its.
    let y_is = (bytes_eq-Decides y.name z.name).0 same in
    let zone_is = (bytes_eq-Decides y.name p.zone).0 (and_parts (bytes_eq y.name p.zone) _ its).0 in
    let own : bytes_eq z.name p.zone ≡ true = (bytes_eq-Decides z.name p.zone).1 (sym y_is ∙ zone_is) in
    let named : bytes_eq p.zone z.name ≡ true = (bytes_eq-Decides p.zone z.name).1 (sym zone_is ∙ y_is) in
    and_from (bytes_eq z.name p.zone) (lists_service tag p.service z) own (sym (ap (λ b. not b || lists_service tag p.service z) named) ∙ keeps)) s.zones.items some)
    fits

-- and after one was taken away
pub zone_fits_left : (s : State) (name : List ℕ) → first_failing (command_rules s (DeleteZone name)) ≡ None → (p : Policy) → Contains s.policies.items p → zone_fits s p ≡ true
    → policy_zone_fits (is_tag_service s p.service) p.service (without (is_zone name) s.zones.items) p ≡ true
zone_fits_left s name h p there fits =
    let tag = is_tag_service s p.service in
    let unused = not_true (list_any (λ (q : Policy). bytes_eq q.zone name) s.policies.items) (passed_at (command_rules s (DeleteZone name)) h 1 (Z8, zone_is_unused s name) refl) in
    let other = none_passes (λ (q : Policy). bytes_eq q.zone name) s.policies.items unused p there in
    case (λ b. (b || list_any (is_zone_of tag p.service p.zone) s.zones.items) ≡ true → (b || list_any (is_zone_of tag p.service p.zone) (without (is_zone name) s.zones.items)) ≡ true) (is_empty p.zone)
    (λ _ _. refl)
    (λ _ some.
    let y = any_holds (is_zone_of tag p.service p.zone) s.zones.items some in
    let same = (bytes_eq-Decides y.0.name p.zone).0 (and_parts (bytes_eq y.0.name p.zone) _ y.2).0 in
    any_from (is_zone_of tag p.service p.zone) (without (is_zone name) s.zones.items) y.0
    (Contains-filter (λ z. not (is_zone name z)) s.zones.items y.0 y.1 (ap not (ap (λ n. bytes_eq n name) same ∙ other))) y.2)
    fits

-- fewer zones are apart
pub apart_left : ((service : List ℕ) (def : ServiceDef) (zones : List ZoneRow) → is_none (first_overlap service def zones) ≡ all_distinct (zones_overlap service def) zones)
    → (s : State) (p : ZoneRow → Bool) → are_apart s s.zones.items ≡ true → are_apart s (filter p s.zones.items) ≡ true
unfolding are_apart are_apart_for
apart_left by_pairs s p h = all_weaker (λ (row : ServiceRow). are_apart_for s s.zones.items row.name) (λ (row : ServiceRow). are_apart_for s (filter p s.zones.items) row.name) s.services.items
    (λ row _ its. under_on (def_of s row.name) (λ d. is_none (first_overlap row.name d s.zones.items)) (λ d. is_none (first_overlap row.name d (filter p s.zones.items)))
    (λ d _ none. by_pairs row.name d (filter p s.zones.items) ∙ distinct_filtered (zones_overlap row.name d) p s.zones.items (sym (by_pairs row.name d s.zones.items) ∙ none)) its) h
