-- When facts are sound: what an engine may be built of.
use Rattle.std.specs.Prelude.{ℤ, pos, int_lt, ◌^◌, ◌&&◌, nat_le, true, false, Bool, List, [], ◌∷◌, ◌++◌, map, Option, Some, None, is_none}
use Rattle.std.specs.List.{list_all}
use Rattle.std.specs.Ordering.{int_eq}
use Rattle.std.specs.Str.{bytes_eq}
use Rattle.rg_base.specs.Texts.{all_distinct}
use Rattle.rg_policy.specs.declared.policy.Policy.{Policy}
use Rattle.rg_defs.specs.Rules.{def_fault, tag_name}
use Rattle.rg_defs.specs.declared.service_def.ServiceDef.{ServiceDef}
use Rattle.rg_evalr.specs.Zones.{bad_rule}
use Rattle.rg_resmatch.specs.Rules.{tagged_fit}
use Rattle.rg_roles.specs.Faults.{fault_of}
use Rattle.rg_roles.specs.Members.{names_of}
use Rattle.rg_tags.specs.Rules.{tags_fit}
use Rattle.rg_tags.specs.declared.row.TagRow.{TagRow}
use Rattle.rg_zone_rules.specs.Overlap.{first_overlap}
use Rattle.rg_zone_rules.specs.Rules.{all_maps_fit, listing_fits, policy_zone_fits, subjects_exist, tag_policy_zone_fits}
use Rattle.rg_evalr.specs.PolicyRules.{subjects_fit}
use Rattle.rg_evalr.specs.Compiling.{policy_fault}
use Rattle.rg_evalr.specs.declared.frame.Frame.{Frame}
use Rattle.rg_evalr.specs.declared.frame.Side.{Side}
use Rattle.rg_evalr.specs.declared.frame.Side.TheVariants.{Resource, Tag}
use Rattle.rg_facts.specs.Candidates.{frame_of}
use Rattle.rg_facts.specs.declared.facts.Facts.{Facts}

-- the versions are at most 2^62
abbrev pub versions_fit : Facts → Bool
versions_fit facts = nat_le facts.policy_version.0 (2 ^ 62) && (nat_le facts.tag_version.0 (2 ^ 62) && nat_le facts.role_version.0 (2 ^ 62))

-- the definition is named `tag`
abbrev pub is_tag_def : ServiceDef → Bool
is_tag_def def = bytes_eq def.name tag_name

-- the tag definition, where there is one, passes S1 to S8 and is named `tag`
abbrev pub tag_def_sound : Option ServiceDef → Bool
tag_def_sound None = true
tag_def_sound (Some def) = is_none (def_fault def) && is_tag_def def

-- the definition passes S1 to S8, and the tag definition is sound
unfoldable pub defs_sound : Facts → Bool
defs_sound facts = is_none (def_fault facts.def) && tag_def_sound facts.tag_def

-- all policies, those of the tag service last
abbrev pub all_policies : Facts → List Policy
all_policies facts = facts.policies.items ++ facts.tag_policies.items

-- the policies have one id
abbrev pub same_id : Policy → Policy → Bool
same_id p q = int_eq p.id.0 q.id.0

-- ids are at least 1, and distinct over all policies
unfoldable pub ids_sound : List Policy → Bool
ids_sound policies = list_all (λ (p : Policy). int_lt (pos 0) p.id.0) policies && all_distinct same_id policies

-- V3 to V9, V11 and V12
abbrev pub passes : Frame → Side → Policy → Bool
passes frame side p = is_none (policy_fault frame side p)

abbrev pub is_no_policy : List Policy → Bool
is_no_policy [] = true
is_no_policy (p ∷ policies) = false

-- the same of tag policies, of which there are none without a tag definition
abbrev pub tag_policies_pass : Frame → Option ServiceDef → List Policy → Bool
tag_policies_pass frame None policies = is_no_policy policies
tag_policies_pass frame (Some def) policies = list_all (passes frame Tag) policies

-- the rule of each time zone reads, and each policy passes its rules
unfoldable pub policies_sound : Facts → Bool
policies_sound facts = is_none (bad_rule facts.time_zones.items)
    && (list_all (passes (frame_of facts) Resource) facts.policies.items
    && tag_policies_pass (frame_of facts) facts.tag_def facts.tag_policies.items)

-- the roles have distinct names, name roles that are there and go in no circle; V10 of each policy
unfoldable pub roles_sound : Facts → Bool
roles_sound facts = is_none (fault_of facts.roles.items)
    && (list_all (subjects_fit (names_of facts.roles.items)) facts.policies.items
    && list_all (subjects_fit (names_of facts.roles.items)) facts.tag_policies.items)

-- V14 of each policy; a tag policy may name any zone that is there
unfoldable pub zone_names_sound : Facts → Bool
zone_names_sound facts = list_all (policy_zone_fits (is_tag_def facts.def) facts.service facts.zones.items) facts.policies.items
    && list_all (tag_policy_zone_fits facts.zones.items) facts.tag_policies.items

-- Z2, Z5, Z3 with Z4, and Z6, all but Z5 asked for the facts' service
unfoldable pub zones_sound : Facts → Bool
zones_sound facts = list_all (listing_fits (is_tag_def facts.def) facts.service) facts.zones.items
    && (list_all (subjects_exist (names_of facts.roles.items)) facts.zones.items
    && (all_maps_fit facts.service facts.def facts.zones.items
    && is_none (first_overlap facts.service facts.def facts.zones.items)))

-- G2 and G3
abbrev pub row_sound : ServiceDef → TagRow → Bool
row_sound def row = tagged_fit def row.resources.items && tags_fit row.tags.items

-- the rows have distinct ids
abbrev pub row_ids : List TagRow → List ℤ
row_ids rows = map (λ (row : TagRow). row.id) rows

unfoldable pub tag_rows_sound : ServiceDef → List TagRow → Bool
tag_rows_sound def rows = list_all (row_sound def) rows && all_distinct int_eq (row_ids rows)

-- everything that is asked of facts
abbrev pub soundness : Facts → List Bool
soundness facts =
    versions_fit facts
    ∷ defs_sound facts
    ∷ ids_sound (all_policies facts)
    ∷ roles_sound facts
    ∷ zone_names_sound facts
    ∷ zones_sound facts
    ∷ tag_rows_sound facts.def facts.tag_rows.items
    ∷ policies_sound facts ∷ []

unfoldable pub sound : Facts → Bool
sound facts = list_all (λ b. b) (soundness facts)
