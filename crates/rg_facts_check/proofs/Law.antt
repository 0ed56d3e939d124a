-- Facts are sound exactly where nothing makes them unsound.
use Rattle.std.proofs.Common.{◌≡◌, ◌&&◌, true, false, not, ℕ, ◌+◌, Bool, cond, List, [], ◌∷◌, ◌++◌, Option, Some, None, is_none, refl, ap, sym, ◌∙◌}
use Rattle.std.proofs.lemmas.Bool.{and_from, and_parts}
use Rattle.std.proofs.lemmas.Iterator.Adapters.{position_from-zero}
use Rattle.std.specs.List.{find, list_all, position_from}
use Rattle.std.specs.Ordering.{int_eq}
use Rattle.std.specs.Prelude.{option_and_then, option_map, position}
use Rattle.rg_base.specs.Texts.{all_distinct}
use Rattle.rg_policy.specs.declared.policy.Policy.{Policy}
use Rattle.rg_defs.specs.Rules.{def_fault}
use Rattle.rg_defs.specs.declared.service_def.ServiceDef.{ServiceDef}
use Rattle.rg_cond.specs.Zones.{bad_rule, place_number}
use Rattle.rg_resmatch.specs.Rules.{tagged_fit}
use Rattle.rg_roles.specs.Faults.{fault_of}
use Rattle.rg_roles.specs.Members.{names_of}
use Rattle.rg_tags.specs.Rules.{tags_fit}
use Rattle.rg_tags.specs.declared.row.TagRow.{TagRow}
use Rattle.rg_zone_rules.specs.Overlap.{first_overlap}
use Rattle.rg_zone_rules.specs.Rules.{all_maps_fit, listing_fits, policy_zone_fits, subjects_exist, tag_policy_zone_fits, zone_levels_fit, zone_values_fit}
use Rattle.rg_zone_rules.specs.declared.row.ZoneRow.{ZoneRow}
use Rattle.rg_items.specs.PolicyRules.{subjects_fit}
use Rattle.rg_evalr.specs.Compiling.{policy_fault}
use Rattle.rg_evalr.specs.declared.frame.Frame.{Frame}
use Rattle.rg_evalr.specs.declared.frame.Side.{Side}
use Rattle.rg_evalr.specs.declared.frame.Side.TheVariants.{Resource, Tag}
use Rattle.rg_facts.specs.Candidates.{frame_of}
use Rattle.rg_facts.specs.Sound.{all_policies, defs_sound, ids_sound, is_no_policy, is_tag_def, passes, policies_sound, roles_sound, row_ids, sound, tag_def_sound, tag_policies_pass, tag_rows_sound, versions_fit, zone_names_sound, zones_sound}
use Rattle.rg_facts.specs.declared.facts.Facts.{Facts}
use Rattle.rg_facts_check.specs.Causes.{def_causes, faulty, first_faulty, first_policy, first_tag_row, first_zone, later_causes, no_cause, or_else, overlap_cause, policy_causes, present, role_causes, rule_causes, some_of, tag_def_causes, tag_policies_cause, tag_row_causes, time_zone_cause, unless, unsound_causes, zone_causes, zone_name_causes, zone_row_causes}
use Rattle.rg_facts_check.specs.declared.unsound.Unsound.{Unsound}
use Rattle.rg_facts_check.specs.declared.unsound.Unsound.TheVariants as unsound

-- ---- there is no cause where each is none

none_of_two : (xs ys : List Unsound) → no_cause (xs ++ ys) ≡ (no_cause xs && no_cause ys)
none_of_two [] ys = refl
none_of_two (x ∷ xs) ys = refl

none_or_else : (xs ys : List Unsound) → no_cause (or_else xs ys) ≡ (no_cause xs && no_cause ys)
none_or_else [] ys = refl
none_or_else (x ∷ xs) ys = refl

none_of_one : (o : Option Unsound) → no_cause (some_of o) ≡ is_none o
none_of_one None = refl
none_of_one (Some x) = refl

none_of_all : (os : List (Option Unsound)) → no_cause (present os) ≡ list_all is_none os
none_of_all [] = refl
none_of_all (None ∷ os) = none_of_all os
none_of_all (Some x ∷ os) = refl

none_unless : (b : Bool) (c : Unsound) → is_none (unless b c) ≡ b
none_unless true c = refl
none_unless false c = refl

none_mapped : {X Y : Type 0} (f : X → Y) (o : Option X) → is_none (option_map f o) ≡ is_none o
none_mapped f None = refl
none_mapped f (Some x) = refl

none_found : {X : Type 0} (test : X → Bool) (xs : List X) → is_none (find (λ x. not (test x)) xs) ≡ list_all test xs
none_found test [] = refl
none_found test (x ∷ xs) = elim (test x) as (λ b. is_none (cond (not b) (Some x) (find (λ y. not (test y)) xs)) ≡ (b && list_all test xs)) [
  | true ↦ none_found test xs
  | false ↦ refl
]

none_from : {X : Type 0} (test : X → Bool) (i : ℕ) (xs : List X) → is_none (position_from (λ x. not (test x)) i xs) ≡ list_all test xs
none_from test i [] = refl
none_from test i (x ∷ xs) = elim (test x) as (λ b. is_none (cond (not b) (Some i) (position_from (λ y. not (test y)) (i + 1) xs)) ≡ (b && list_all test xs)) [
  | true ↦ none_from test (i + 1) xs
  | false ↦ refl
]

none_placed : {X : Type 0} (test : X → Bool) (xs : List X) → is_none (position (λ x. not (test x)) xs) ≡ list_all test xs
none_placed test xs = ap is_none (position_from-zero (λ x. not (test x)) xs) ∙ none_from test 0 xs

and_true : (b : Bool) → (b && true) ≡ b
and_true true = refl
and_true false = refl

and_last : (a b c d : Bool) → ((a && (b && c)) && d) ≡ (a && (b && (c && d)))
and_last true true c d = refl
and_last true false c d = refl
and_last false b c d = refl

and_inside : (a b c : Bool) → (a && (b && c)) ≡ ((a && b) && c)
and_inside true b c = refl
and_inside false b c = refl

both_all : {X : Type 0} (p q : X → Bool) (xs : List X) → (list_all p xs && list_all q xs) ≡ list_all (λ x. p x && q x) xs
both_all p q [] = refl
both_all p q (x ∷ xs) = swapped (p x) (list_all p xs) (q x) (list_all q xs) ∙ ap (λ b. (p x && q x) && b) (both_all p q xs)
  where
    swapped : (a b c d : Bool) → ((a && b) && (c && d)) ≡ ((a && c) && (b && d))
    swapped false b c d = refl
    swapped true true c d = refl
    swapped true false true d = refl
    swapped true false false d = refl

-- ---- part by part

policy_none : (rule : ℕ) (test : Policy → Bool) (ps : List Policy) → is_none (first_policy rule test ps) ≡ list_all test ps
policy_none rule test ps = none_mapped (λ (p : Policy). unsound.Policy p.id rule) _ ∙ none_found test ps

zone_none : (rule : ℕ) (test : ZoneRow → Bool) (zs : List ZoneRow) → is_none (first_zone rule test zs) ≡ list_all test zs
zone_none rule test zs = none_mapped (λ place. unsound.Zone place rule) _ ∙ none_placed test zs

tag_row_none : (rule : ℕ) (test : TagRow → Bool) (rows : List TagRow) → is_none (first_tag_row rule test rows) ≡ list_all test rows
tag_row_none rule test rows = none_mapped (λ (r : TagRow). unsound.TagRow r.id rule) _ ∙ none_found test rows

faulty_none : (frame : Frame) (side : Side) (ps : List Policy) → is_none (first_faulty frame side ps) ≡ list_all (passes frame side) ps
faulty_none frame side [] = refl
faulty_none frame side (p ∷ ps) = elim (policy_fault frame side p) as
    (λ o. policy_fault frame side p ≡ o → is_none (option_and_then (faulty frame side) (cond (not (is_none o)) (Some p) (find (λ q. not (passes frame side q)) ps))) ≡ (is_none o && list_all (passes frame side) ps)) [
      | None ↦ λ e. faulty_none frame side ps
      | Some n ↦ λ e. none_mapped (unsound.Policy p.id) (policy_fault frame side p) ∙ ap is_none e
    ] refl

tag_def_none : (o : Option ServiceDef) → list_all is_none (tag_def_causes o) ≡ tag_def_sound o
tag_def_none None = refl
tag_def_none (Some def) = λ i. none_mapped unsound.TagDefinition (def_fault def) i && (and_true (is_none (unless (is_tag_def def) unsound.TagName)) ∙ none_unless (is_tag_def def) unsound.TagName) i

defs_none : (facts : Facts) → no_cause (present (def_causes facts)) ≡ defs_sound facts
unfolding defs_sound
defs_none facts = none_of_all (def_causes facts) ∙ (λ i. none_mapped unsound.Definition (def_fault facts.def) i && tag_def_none facts.tag_def i)

roles_none : (facts : Facts) → no_cause (present (role_causes facts)) ≡ roles_sound facts
unfolding roles_sound
roles_none facts = let test = subjects_fit (names_of facts.roles.items) in
    none_of_all (role_causes facts)
    ∙ (λ i. none_mapped unsound.Roles (fault_of facts.roles.items) i && (policy_none 10 test facts.policies.items i && (and_true _ ∙ policy_none 10 test facts.tag_policies.items) i))

zone_names_none : (facts : Facts) → no_cause (present (zone_name_causes facts)) ≡ zone_names_sound facts
unfolding zone_names_sound
zone_names_none facts =
    none_of_all (zone_name_causes facts)
    ∙ (λ i. policy_none 14 (policy_zone_fits (is_tag_def facts.def) facts.service facts.zones.items) facts.policies.items i
    && (and_true _ ∙ policy_none 14 (tag_policy_zone_fits facts.zones.items) facts.tag_policies.items) i)

zones_none : (facts : Facts) → no_cause (zone_causes facts) ≡ zones_sound facts
unfolding zone_causes zones_sound
zones_none facts =
    let zones = facts.zones.items in
    none_or_else (present (zone_row_causes facts)) (some_of (overlap_cause facts))
    ∙ (λ i. none_of_all (zone_row_causes facts) i && none_of_one (overlap_cause facts) i)
    ∙ (λ i. (zone_none 2 (listing_fits (is_tag_def facts.def) facts.service) zones i
    && (zone_none 5 (subjects_exist (names_of facts.roles.items)) zones i
    && (zone_none 3 (zone_levels_fit facts.service facts.def) zones i
    && (and_true _ ∙ zone_none 4 (zone_values_fit facts.service) zones) i)))
    && none_mapped (λ (pair : ℕ × ℕ). unsound.Overlap pair.0 pair.1) (first_overlap facts.service facts.def zones) i)
    ∙ and_last (list_all (listing_fits (is_tag_def facts.def) facts.service) zones) (list_all (subjects_exist (names_of facts.roles.items)) zones)
    (list_all (zone_levels_fit facts.service facts.def) zones && list_all (zone_values_fit facts.service) zones) (is_none (first_overlap facts.service facts.def zones))
    ∙ ap (λ b. list_all (listing_fits (is_tag_def facts.def) facts.service) zones && (list_all (subjects_exist (names_of facts.roles.items)) zones && (b && is_none (first_overlap facts.service facts.def zones))))
    (both_all (zone_levels_fit facts.service facts.def) (zone_values_fit facts.service) zones)

tag_rows_none : (facts : Facts) → no_cause (present (tag_row_causes facts)) ≡ tag_rows_sound facts.def facts.tag_rows.items
unfolding tag_rows_sound
tag_rows_none facts =
    let rows = facts.tag_rows.items in
    let fits : TagRow → Bool = λ (r : TagRow). tagged_fit facts.def r.resources.items in
    let tags : TagRow → Bool = λ (r : TagRow). tags_fit r.tags.items in
    none_of_all (tag_row_causes facts)
    ∙ (λ i. tag_row_none 2 fits rows i && (tag_row_none 3 tags rows i && (and_true _ ∙ none_unless (all_distinct int_eq (row_ids rows)) unsound.TagRowIds) i))
    ∙ and_inside (list_all fits rows) (list_all tags rows) (all_distinct int_eq (row_ids rows))
    ∙ ap (λ b. b && all_distinct int_eq (row_ids rows)) (both_all fits tags rows)

tag_policies_none : (frame : Frame) (o : Option ServiceDef) (ps : List Policy) → is_none (tag_policies_cause frame o ps) ≡ tag_policies_pass frame o ps
tag_policies_none frame None ps = none_unless (is_no_policy ps) unsound.NoTagDefinition
tag_policies_none frame (Some def) ps = faulty_none frame Tag ps

rules_none : (facts : Facts) → no_cause (present (rule_causes facts)) ≡ (list_all (passes (frame_of facts) Resource) facts.policies.items && tag_policies_pass (frame_of facts) facts.tag_def facts.tag_policies.items)
rules_none facts =
    none_of_all (rule_causes facts)
    ∙ (λ i. faulty_none (frame_of facts) Resource facts.policies.items i && (and_true _ ∙ tag_policies_none (frame_of facts) facts.tag_def facts.tag_policies.items) i)

policies_none : (facts : Facts) → no_cause (policy_causes facts) ≡ policies_sound facts
unfolding policy_causes policies_sound
policies_none facts =
    none_or_else (some_of (time_zone_cause facts)) (present (rule_causes facts))
    ∙ (λ i. (none_of_one (time_zone_cause facts) ∙ none_mapped unsound.TimeZone (option_map place_number (bad_rule facts.time_zones.items)) ∙ none_mapped place_number (bad_rule facts.time_zones.items)) i
    && rules_none facts i)

-- ---- the whole

ids_none : (facts : Facts) → no_cause (some_of (unless (ids_sound (all_policies facts)) unsound.PolicyIds)) ≡ ids_sound (all_policies facts)
ids_none facts = none_of_one _ ∙ none_unless (ids_sound (all_policies facts)) unsound.PolicyIds

later_none : (facts : Facts) → no_cause (later_causes facts)
    ≡ (ids_sound (all_policies facts) && (roles_sound facts && (zone_names_sound facts && (zones_sound facts && (tag_rows_sound facts.def facts.tag_rows.items && (policies_sound facts && true))))))
unfolding later_causes
later_none facts =
    let ids = some_of (unless (ids_sound (all_policies facts)) unsound.PolicyIds) in
    let roles = present (role_causes facts) in
    let names = present (zone_name_causes facts) in
    let rows = present (tag_row_causes facts) in
    none_of_two ids (roles ++ (names ++ (zone_causes facts ++ (rows ++ policy_causes facts))))
    ∙ (λ i. ids_none facts i && (none_of_two roles (names ++ (zone_causes facts ++ (rows ++ policy_causes facts)))
    ∙ (λ i. roles_none facts i && (none_of_two names (zone_causes facts ++ (rows ++ policy_causes facts))
    ∙ (λ i. zone_names_none facts i && (none_of_two (zone_causes facts) (rows ++ policy_causes facts)
    ∙ (λ i. zones_none facts i && (none_of_two rows (policy_causes facts)
    ∙ (λ i. tag_rows_none facts i && (policies_none facts ∙ sym (and_true (policies_sound facts))) i)) i)) i)) i)) i)

pub without_cause : (facts : Facts) → no_cause (unsound_causes facts) ≡ sound facts
unfolding unsound_causes sound
without_cause facts =
    let version = some_of (unless (versions_fit facts) unsound.Version) in
    none_of_two version (or_else (present (def_causes facts)) (later_causes facts))
    ∙ (λ i. (none_of_one (unless (versions_fit facts) unsound.Version) ∙ none_unless (versions_fit facts) unsound.Version) i
    && (none_or_else (present (def_causes facts)) (later_causes facts) ∙ (λ i. defs_none facts i && later_none facts i)) i)

-- ---- what earlier causes leave

-- the maps of zones fit
pub fitting_maps : (facts : Facts) → present (zone_row_causes facts) ≡ [] → all_maps_fit facts.service facts.def facts.zones.items ≡ true
fitting_maps facts h =
    let zones = facts.zones.items in
    let all = sym (none_of_all (zone_row_causes facts)) ∙ ap no_cause h in
    let listing = and_parts (is_none (first_zone 2 (listing_fits (is_tag_def facts.def) facts.service) zones)) _ all in
    let subjects = and_parts (is_none (first_zone 5 (subjects_exist (names_of facts.roles.items)) zones)) _ listing.1 in
    let levels = and_parts (is_none (first_zone 3 (zone_levels_fit facts.service facts.def) zones)) _ subjects.1 in
    let values = and_parts (is_none (first_zone 4 (zone_values_fit facts.service) zones)) _ levels.1 in
    sym (both_all (zone_levels_fit facts.service facts.def) (zone_values_fit facts.service) zones)
    ∙ and_from _ _ (sym (zone_none 3 (zone_levels_fit facts.service facts.def) zones) ∙ levels.0) (sym (zone_none 4 (zone_values_fit facts.service) zones) ∙ values.0)

pub ruleset fitting = (fitting_maps)
