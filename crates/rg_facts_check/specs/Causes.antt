-- What makes facts unsound, cause by cause, in the order in which soundness is asked.
use Rattle.std.specs.Prelude.{ℕ, Bool, true, false, not, List, [], ◌∷◌, ◌++◌, Option, Some, None, option_and_then, option_map, position, if◌then◌else◌}
use Rattle.std.specs.List.{find}
use Rattle.std.specs.Ordering.{int_eq}
use Rattle.rg_base.specs.Texts.{all_distinct}
use Rattle.rg_policy.specs.declared.policy.Policy.{Policy}
use Rattle.rg_defs.specs.Rules.{def_fault}
use Rattle.rg_defs.specs.declared.service_def.ServiceDef.{ServiceDef}
use Rattle.rg_cond.specs.Zones.{bad_rule, place_number}
use Rattle.rg_resmatch.specs.Rules.{tagged_fit}
use Rattle.rg_roles.specs.Faults.{fault_of}
use Rattle.rg_roles.specs.Members.{names_of}
use Rattle.rg_tags.specs.Rules.{tags_fit}
use Rattle.rg_tags.specs.declared.row.TagRow.{TagRow}
use Rattle.rg_zone_rules.specs.Overlap.{first_overlap}
use Rattle.rg_zone_rules.specs.Rules.{listing_fits, policy_zone_fits, subjects_exist, tag_policy_zone_fits, zone_levels_fit, zone_values_fit}
use Rattle.rg_zone_rules.specs.declared.row.ZoneRow.{ZoneRow}
use Rattle.rg_items.specs.PolicyRules.{subjects_fit}
use Rattle.rg_evalr.specs.Compiling.{policy_fault}
use Rattle.rg_evalr.specs.declared.frame.Frame.{Frame}
use Rattle.rg_evalr.specs.declared.frame.Side.{Side}
use Rattle.rg_evalr.specs.declared.frame.Side.TheVariants.{Resource, Tag}
use Rattle.rg_facts.specs.Candidates.{frame_of}
use Rattle.rg_facts.specs.Sound.{all_policies, ids_sound, is_no_policy, is_tag_def, passes, row_ids, versions_fit}
use Rattle.rg_facts.specs.declared.facts.Facts.{Facts}
use Rattle.rg_facts_check.specs.declared.unsound.Unsound.{Unsound}
use Rattle.rg_facts_check.specs.declared.unsound.Unsound.TheVariants as unsound

-- the cause, unless the test holds
abbrev pub unless : Bool → Unsound → Option Unsound
unless holds cause = if holds then None else Some cause

-- the first policy that fails the rule of this number
abbrev pub first_policy : ℕ → (Policy → Bool) → List Policy → Option Unsound
first_policy rule test policies = option_map (λ (p : Policy). unsound.Policy p.id rule) (find (λ p. not (test p)) policies)

-- the first rule of V3 to V9, V11 and V12 that the policy fails
abbrev pub faulty : Frame → Side → Policy → Option Unsound
faulty frame side p = option_map (unsound.Policy p.id) (policy_fault frame side p)

-- the first policy that fails such a rule
abbrev pub first_faulty : Frame → Side → List Policy → Option Unsound
first_faulty frame side policies = option_and_then (faulty frame side) (find (λ p. not (passes frame side p)) policies)

-- the place of the first zone that fails the rule of this number
abbrev pub first_zone : ℕ → (ZoneRow → Bool) → List ZoneRow → Option Unsound
first_zone rule test zones = option_map (λ place. unsound.Zone place rule) (position (λ z. not (test z)) zones)

-- the first tag row that fails the rule of this number
abbrev pub first_tag_row : ℕ → (TagRow → Bool) → List TagRow → Option Unsound
first_tag_row rule test rows = option_map (λ (r : TagRow). unsound.TagRow r.id rule) (find (λ r. not (test r)) rows)

abbrev pub tag_def_causes : Option ServiceDef → List (Option Unsound)
tag_def_causes None = []
tag_def_causes (Some def) = option_map unsound.TagDefinition (def_fault def) ∷ unless (is_tag_def def) unsound.TagName ∷ []

-- S1 to S8 of both definitions, and the name of the tag definition
abbrev pub def_causes : Facts → List (Option Unsound)
def_causes facts = option_map unsound.Definition (def_fault facts.def) ∷ tag_def_causes facts.tag_def

-- the roles, and V10 of each policy
abbrev pub role_causes : Facts → List (Option Unsound)
role_causes facts =
    option_map unsound.Roles (fault_of facts.roles.items)
    ∷ first_policy 10 (subjects_fit (names_of facts.roles.items)) facts.policies.items
    ∷ first_policy 10 (subjects_fit (names_of facts.roles.items)) facts.tag_policies.items ∷ []

-- V14 of each policy
abbrev pub zone_name_causes : Facts → List (Option Unsound)
zone_name_causes facts =
    first_policy 14 (policy_zone_fits (is_tag_def facts.def) facts.service facts.zones.items) facts.policies.items
    ∷ first_policy 14 (tag_policy_zone_fits facts.zones.items) facts.tag_policies.items ∷ []

-- Z2, Z5, Z3 and Z4, all but Z5 asked for the facts' service
abbrev pub zone_row_causes : Facts → List (Option Unsound)
zone_row_causes facts =
    first_zone 2 (listing_fits (is_tag_def facts.def) facts.service) facts.zones.items
    ∷ first_zone 5 (subjects_exist (names_of facts.roles.items)) facts.zones.items
    ∷ first_zone 3 (zone_levels_fit facts.service facts.def) facts.zones.items
    ∷ first_zone 4 (zone_values_fit facts.service) facts.zones.items ∷ []

-- Z6, asked for the facts' service
abbrev pub overlap_cause : Facts → Option Unsound
overlap_cause facts = option_map (λ (pair : ℕ × ℕ). unsound.Overlap pair.0 pair.1) (first_overlap facts.service facts.def facts.zones.items)

-- G2, G3 and the ids of tag rows
abbrev pub tag_row_causes : Facts → List (Option Unsound)
tag_row_causes facts =
    first_tag_row 2 (λ (r : TagRow). tagged_fit facts.def r.resources.items) facts.tag_rows.items
    ∷ first_tag_row 3 (λ (r : TagRow). tags_fit r.tags.items) facts.tag_rows.items
    ∷ unless (all_distinct int_eq (row_ids facts.tag_rows.items)) unsound.TagRowIds ∷ []

abbrev pub tag_policies_cause : Frame → Option ServiceDef → List Policy → Option Unsound
tag_policies_cause frame None policies = unless (is_no_policy policies) unsound.NoTagDefinition
tag_policies_cause frame (Some def) policies = first_faulty frame Tag policies

-- V3 to V9, V11 and V12 of each policy, those of the tag service last
abbrev pub rule_causes : Facts → List (Option Unsound)
rule_causes facts =
    first_faulty (frame_of facts) Resource facts.policies.items
    ∷ tag_policies_cause (frame_of facts) facts.tag_def facts.tag_policies.items ∷ []

-- the time zones
abbrev pub time_zone_cause : Facts → Option Unsound
time_zone_cause facts = option_map unsound.TimeZone (option_map place_number (bad_rule facts.time_zones.items))

-- ---- all of them

-- the cause that there is, as a list
abbrev pub some_of : {X : Type 0} → Option X → List X
some_of None = []
some_of (Some x) = x ∷ []

-- those that there are
abbrev pub present : {X : Type 0} → List (Option X) → List X
present [] = []
present (o ∷ os) = some_of o ++ present os

-- these, or where there is none of them those
abbrev pub or_else : {X : Type 0} → List X → List X → List X
or_else [] later = later
or_else (x ∷ xs) later = x ∷ xs

-- of zones: whether they overlap is asked of those that pass the other rules
unfoldable pub zone_causes : Facts → List Unsound
zone_causes facts = or_else (present (zone_row_causes facts)) (some_of (overlap_cause facts))

-- of time zones and policies: these are read under time zones whose rules read
unfoldable pub policy_causes : Facts → List Unsound
policy_causes facts = or_else (some_of (time_zone_cause facts)) (present (rule_causes facts))

-- behind the definitions: of ids, roles, zones, tag rows and policies
unfoldable pub later_causes : Facts → List Unsound
later_causes facts =
    some_of (unless (ids_sound (all_policies facts)) unsound.PolicyIds)
    ++ (present (role_causes facts)
    ++ (present (zone_name_causes facts)
    ++ (zone_causes facts
    ++ (present (tag_row_causes facts)
    ++ policy_causes facts))))

-- every cause in the order in which soundness is asked: of each rule the first row that breaks it, and nothing by a definition that
-- breaks its own
unfoldable pub unsound_causes : Facts → List Unsound
unsound_causes facts = some_of (unless (versions_fit facts) unsound.Version) ++ or_else (present (def_causes facts)) (later_causes facts)

-- there is none
abbrev pub no_cause : List Unsound → Bool
no_cause [] = true
no_cause (cause ∷ causes) = false
