-- For proofs alone: what is true of a valid policy, zone and tag row, one by one.
use Rattle.std.proofs.Common.{◌≡◌, ◌&&◌, Bool, true, Option, Some, None, refl}
use Rattle.std.specs.List.{list_all}
use Rattle.std.proofs.lemmas.Bool.{and_from, and_parts, false≢true}
use Rattle.rg_base.specs.Texts.{is_among}
use Rattle.rg_policy.specs.declared.policy.Policy.{Policy}
use Rattle.rg_cond.specs.PolicyRules.{schedules_read}
use Rattle.rg_defs.specs.declared.service_def.ServiceDef.{ServiceDef}
use Rattle.rg_items.specs.PolicyRules.{priority_fits}
use Rattle.rg_tags.specs.Rules.{tags_fit}
use Rattle.rg_tags.specs.declared.row.TagRow.{TagRow}
use Rattle.rg_zone_rules.specs.Rules.{lists_each_once}
use Rattle.rg_zone_rules.specs.declared.row.ZoneRow.{ZoneRow}
use Rattle.rg_zone_rules.specs.declared.row.ZoneService.{ZoneService}
use Rattle.rg_cmd.specs.Lookups.{def_of}
use Rattle.rg_cmd.specs.declared.state.State.{State}
use Rattle.rg_validate.specs.Definitions.{policy_suits, under}
use Rattle.rg_validate.specs.Policies.{policy_subjects_fit, zone_fits}
use Rattle.rg_validate.specs.Tags.{tagged_resources_fit, tagged_service_fits}
use Rattle.rg_validate.specs.Valid.{policy_valid, tag_row_valid, zone_valid}
use Rattle.rg_validate.specs.Zones.{plain_services, tag_services, zone_levels_suit, zone_services_fit, zone_subjects_exist, zone_values_suit}

module _ (s : State) where
  pub record PolicyParts (p : Policy) : Type 0 where
    pub suits : under (def_of s p.service) (λ def. policy_suits def p) ≡ true
    pub priority : priority_fits p ≡ true
    pub subjects : policy_subjects_fit s p ≡ true
    pub schedules : schedules_read s.time_zones.items p ≡ true
    pub zone : zone_fits s p ≡ true

  pub policy_parts : (p : Policy) → policy_valid s p ≡ true → PolicyParts p
  policy_parts p v =
      let a = and_parts (under (def_of s p.service) (λ def. policy_suits def p)) (priority_fits p && (policy_subjects_fit s p && (schedules_read s.time_zones.items p && zone_fits s p))) v in
      let b = and_parts (priority_fits p) (policy_subjects_fit s p && (schedules_read s.time_zones.items p && zone_fits s p)) a.1 in
      let c = and_parts (policy_subjects_fit s p) (schedules_read s.time_zones.items p && zone_fits s p) b.1 in
      let d = and_parts (schedules_read s.time_zones.items p) (zone_fits s p) c.1 in
      record { suits = a.0; priority = b.0; subjects = c.0; schedules = d.0; zone = d.1 }

  pub policy_whole : (p : Policy) → PolicyParts p → policy_valid s p ≡ true
  policy_whole p parts =
      and_from (under (def_of s p.service) (λ def. policy_suits def p)) _ parts.suits
      (and_from (priority_fits p) _ parts.priority
      (and_from (policy_subjects_fit s p) _ parts.subjects
      (and_from (schedules_read s.time_zones.items p) (zone_fits s p) parts.schedules parts.zone)))

  pub record ZoneParts (z : ZoneRow) : Type 0 where
    pub services : list_all (λ (e : ZoneService). is_among e.service (plain_services s)) z.services.items ≡ true
    pub tags : list_all (λ name. is_among name (tag_services s)) z.tag_services.items ≡ true
    pub once : lists_each_once z ≡ true
    pub levels : zone_levels_suit s z ≡ true
    pub values : zone_values_suit z ≡ true
    pub subjects : zone_subjects_exist s z ≡ true

  pub zone_parts : (z : ZoneRow) → zone_valid s z ≡ true → ZoneParts z
  zone_parts z v =
      let a = and_parts (zone_services_fit s z) (zone_levels_suit s z && (zone_values_suit z && zone_subjects_exist s z)) v in
      let b = and_parts (zone_levels_suit s z) (zone_values_suit z && zone_subjects_exist s z) a.1 in
      let c = and_parts (zone_values_suit z) (zone_subjects_exist s z) b.1 in
      let plain = list_all (λ (e : ZoneService). is_among e.service (plain_services s)) z.services.items in
      let tags = list_all (λ name. is_among name (tag_services s)) z.tag_services.items in
      let d = and_parts (plain && tags) (lists_each_once z) a.0 in
      let e = and_parts plain tags d.0 in
      record { services = e.0; tags = e.1; once = d.1; levels = b.0; values = c.0; subjects = c.1 }

  pub zone_whole : (z : ZoneRow) → ZoneParts z → zone_valid s z ≡ true
  zone_whole z parts =
      let plain = list_all (λ (e : ZoneService). is_among e.service (plain_services s)) z.services.items in
      let tags = list_all (λ name. is_among name (tag_services s)) z.tag_services.items in
      and_from (zone_services_fit s z) _ (and_from (plain && tags) (lists_each_once z) (and_from plain tags parts.services parts.tags) parts.once)
      (and_from (zone_levels_suit s z) _ parts.levels (and_from (zone_values_suit z) (zone_subjects_exist s z) parts.values parts.subjects))

  pub record RowParts (r : TagRow) : Type 0 where
    pub service : tagged_service_fits s r ≡ true
    pub resources : tagged_resources_fit s r ≡ true
    pub tags : tags_fit r.tags.items ≡ true

  pub row_parts : (r : TagRow) → tag_row_valid s r ≡ true → RowParts r
  row_parts r v =
      let a = and_parts (tagged_service_fits s r) (tagged_resources_fit s r && tags_fit r.tags.items) v in
      let b = and_parts (tagged_resources_fit s r) (tags_fit r.tags.items) a.1 in
      record { service = a.0; resources = b.0; tags = b.1 }

  pub row_whole : (r : TagRow) → RowParts r → tag_row_valid s r ≡ true
  row_whole r parts = and_from (tagged_service_fits s r) _ parts.service (and_from (tagged_resources_fit s r) (tags_fit r.tags.items) parts.resources parts.tags)

-- what is asked under a definition that is there, or isn't
pub under_on : (o : Option ServiceDef) (t u : ServiceDef → Bool) → ((d : ServiceDef) → o ≡ Some d → t d ≡ true → u d ≡ true) → under o t ≡ true → under o u ≡ true
under_on None t u says h = h
under_on (Some d) t u says h = says d refl h

pub under_some : (o : Option ServiceDef) (t : ServiceDef → Bool) → under o t ≡ true → (d : ServiceDef) × (o ≡ Some d)
under_some None t h = absurd (false≢true h)
under_some (Some d) t h = (d, refl)
