-- What the soundness of facts says of their parts.
use Rattle.std.proofs.Common.{◌≡◌, true, false, pos, int_lt, List, [], ◌∷◌, Option, Some, None, is_none, refl, ap, subst}
use Rattle.std.proofs.lemmas.Bool.{and_parts, and_from}
use Rattle.std.specs.List.{list_all}
use Rattle.std.specs.Prelude.{unwrap_or}
use Rattle.rg_base.specs.Texts.{all_distinct}
use Rattle.rg_policy.specs.declared.policy.Policy.{Policy}
use Rattle.rg_defs.specs.Rules.{def_fault}
use Rattle.rg_defs.specs.declared.service_def.ServiceDef.{ServiceDef}
use Rattle.rg_evalr.specs.Zones.{bad_rule}
use Rattle.rg_resmatch.specs.Rules.{tagged_fit}
use Rattle.rg_tags.specs.declared.row.TagRow.{TagRow}
use Rattle.rg_zone_rules.specs.Rules.{all_maps_fit, listing_fits, subjects_exist}
use Rattle.rg_roles.specs.Members.{names_of}
use Rattle.rg_evalr.specs.Frames.{def_of}
use Rattle.rg_evalr.specs.declared.frame.Side.TheVariants.{Resource, Tag}
use Rattle.rg_facts.specs.Candidates.{frame_of}
use Rattle.rg_facts.specs.Sound.{all_policies, defs_sound, ids_sound, is_no_policy, is_tag_def, passes, policies_sound, roles_sound, row_sound, same_id, sound, tag_def_sound, tag_policies_pass, tag_rows_sound, versions_fit, zone_names_sound, zones_sound}
use Rattle.rg_facts.specs.declared.facts.Facts.{Facts}

none_of : {X : Type 0} (o : Option X) → is_none o ≡ true → o ≡ None
none_of None h = refl
none_of (Some x) h = let bad : false ≡ true = h in cc

-- the groups that compiling rests on
record Groups (facts : Facts) : Type 0 where
  defs : defs_sound facts ≡ true
  ids : ids_sound (all_policies facts) ≡ true
  zones : zones_sound facts ≡ true
  rows : tag_rows_sound facts.def facts.tag_rows.items ≡ true
  policies : policies_sound facts ≡ true

groups_of : (facts : Facts) → sound facts ≡ true → Groups facts
unfolding sound
groups_of facts h =
    let a = and_parts (versions_fit facts) _ h in
    let b = and_parts (defs_sound facts) _ a.1 in
    let c = and_parts (ids_sound (all_policies facts)) _ b.1 in
    let d = and_parts (roles_sound facts) _ c.1 in
    let e = and_parts (zone_names_sound facts) _ d.1 in
    let f = and_parts (zones_sound facts) _ e.1 in
    let g = and_parts (tag_rows_sound facts.def facts.tag_rows.items) _ f.1 in
    let i = and_parts (policies_sound facts) _ g.1 in
    record { defs = b.0; ids = c.0; zones = f.0; rows = g.0; policies = i.0 }

-- no rule of the definition fails
pub lawful_def : (facts : Facts) → defs_sound facts ≡ true → def_fault facts.def ≡ None
unfolding defs_sound
lawful_def facts h = none_of (def_fault facts.def) (and_parts (is_none (def_fault facts.def)) _ h).0

pub lawful : (facts : Facts) → sound facts ≡ true → def_fault facts.def ≡ None
lawful facts h = lawful_def facts (groups_of facts h).defs

-- the tag definition is sound
pub tag_def_of : (facts : Facts) → defs_sound facts ≡ true → tag_def_sound facts.tag_def ≡ true
unfolding defs_sound
tag_def_of facts h = (and_parts (is_none (def_fault facts.def)) _ h).1

-- no rule of the tag definition fails
pub lawful_tag_def : (o : Option ServiceDef) (def : ServiceDef) → o ≡ Some def → tag_def_sound o ≡ true → def_fault def ≡ None
lawful_tag_def o def is h =
    let here : tag_def_sound (Some def) ≡ true = subst (λ x. tag_def_sound x ≡ true) is h in
    none_of (def_fault def) (and_parts (is_none (def_fault def)) _ here).0

-- the definition of tag policies passes its rules
pub tag_side_lawful : (facts : Facts) → sound facts ≡ true → def_fault (def_of (frame_of facts) Tag) ≡ None
tag_side_lawful facts h = elim facts.tag_def as (λ o. facts.tag_def ≡ o → def_fault (unwrap_or o facts.def) ≡ None) [
  | None ↦ λ e. lawful facts h
  | Some def ↦ λ e. lawful_tag_def facts.tag_def def e (tag_def_of facts (groups_of facts h).defs)
] refl

-- ids are distinct over all policies
pub ids_of : (facts : Facts) → sound facts ≡ true → all_distinct same_id (all_policies facts) ≡ true
unfolding ids_sound
ids_of facts h = (and_parts (list_all (λ (p : Policy). int_lt (pos 0) p.id.0) (all_policies facts)) _ (groups_of facts h).ids).1

-- each policy passes its rules
pub policies_of : (facts : Facts) → sound facts ≡ true → list_all (passes (frame_of facts) Resource) facts.policies.items ≡ true
unfolding policies_sound
policies_of facts h =
    let a = and_parts (is_none (bad_rule facts.time_zones.items)) _ (groups_of facts h).policies in
    (and_parts (list_all (passes (frame_of facts) Resource) facts.policies.items) _ a.1).0

no_policy : (policies : List Policy) → is_no_policy policies ≡ true → policies ≡ []
no_policy [] h = refl
no_policy (p ∷ policies) h = let bad : false ≡ true = h in cc

-- and each tag policy
pub tag_policies_of : (facts : Facts) → sound facts ≡ true → list_all (passes (frame_of facts) Tag) facts.tag_policies.items ≡ true
unfolding policies_sound
tag_policies_of facts h =
    let a = and_parts (is_none (bad_rule facts.time_zones.items)) _ (groups_of facts h).policies in
    let b = (and_parts (list_all (passes (frame_of facts) Resource) facts.policies.items) _ a.1).1 in
    elim facts.tag_def as (λ o. tag_policies_pass (frame_of facts) o facts.tag_policies.items ≡ true → list_all (passes (frame_of facts) Tag) facts.tag_policies.items ≡ true) [
      | None ↦ λ none. ap (list_all (passes (frame_of facts) Tag)) (no_policy facts.tag_policies.items none)
      | Some def ↦ λ all. all
    ] b

rows_fit : (def : ServiceDef) (rows : List TagRow) → list_all (row_sound def) rows ≡ true → list_all (λ (row : TagRow). tagged_fit def row.resources.items) rows ≡ true
rows_fit def [] h = refl
rows_fit def (row ∷ rows) h =
    let both = and_parts (row_sound def row) _ h in
    and_from _ _ (and_parts (tagged_fit def row.resources.items) _ both.0).0 (rows_fit def rows both.1)

-- the resources of tag rows may be compiled
pub rows_of : (facts : Facts) → sound facts ≡ true → list_all (λ (row : TagRow). tagged_fit facts.def row.resources.items) facts.tag_rows.items ≡ true
unfolding tag_rows_sound
rows_of facts h = rows_fit facts.def facts.tag_rows.items (and_parts (list_all (row_sound facts.def) facts.tag_rows.items) _ (groups_of facts h).rows).0

-- the maps of zones for the service fit
pub zones_of : (facts : Facts) → sound facts ≡ true → all_maps_fit facts.service facts.def facts.zones.items ≡ true
unfolding zones_sound
zones_of facts h =
    let a = and_parts (list_all (listing_fits (is_tag_def facts.def) facts.service) facts.zones.items) _ (groups_of facts h).zones in
    let b = and_parts (list_all (subjects_exist (names_of facts.roles.items)) facts.zones.items) _ a.1 in
    (and_parts (all_maps_fit facts.service facts.def facts.zones.items) _ b.1).0
