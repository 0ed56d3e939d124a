-- Parts of a download that were read from JSON that is in order are in key order.
use Rattle.std.proofs.Common.{◌≡◌, ◌≤◌, Option, Some, None, IfSome, Result, Ok, is_some, Bool, true, false, if◌then◌else◌, refl, sym, subst, arith}
use Rattle.serde_json.specs.Data.{Data}
use Rattle.serde_json.specs.Find.{as_object}
use Rattle.rg_cmd.specs.declared.download.PolicyPart.{PolicyPart}
use Rattle.rg_cmd.specs.declared.download.RolePart.{RolePart}
use Rattle.rg_cmd.specs.declared.download.TagPart.{TagPart}
use Rattle.rg_json.specs.declared.fault.Fault.{Fault}
use Rattle.rg_json.specs.declared.fault.WireKind.TheVariants.{Mistyped}
use Rattle.rg_json.specs.Faults.{fault_of, here}
use Rattle.rg_json.specs.Fields.{field, list_of}
use Rattle.rg_json.specs.Own.{OwnList}
use Rattle.rg_json.specs.Reading.{unless_fault}
use Rattle.rg_json.specs.Shape.{Shape}
use Rattle.rg_wire.specs.declared.key.Key.TheVariants as key
use Rattle.rg_wire.specs.Names.{name_of}
use Rattle.rg_wire.specs.Own.{IsPolicy}
use Rattle.rg_wire.specs.Records.{policy_of, role_of, service_def_of, tag_row_of, time_zone_of, zone_of}
use Rattle.rg_wire.specs.Shapes.{policy_delta_shape, policy_whole_shape, role_whole_shape, tag_delta_shape, tag_whole_shape}
use Rattle.rg_ask_wire.specs.KeyOrder.{IsDef, IsRole, IsTagRow, IsZone}
use Rattle.rg_ask_wire.specs.Orderly.{IsOrderly}
use Rattle.rg_ask_wire.proofs.InOrder.{Found, field_found, list_of_own, list_own, within_orderly}
use Rattle.rg_ask_wire.proofs.Owned.{def_own, role_own, tag_row_own, zone_own}
use Rattle.rg_download_wire.specs.InOrder.{IsPolicyChange, IsPolicyDelta, IsPolicyPart, IsPolicyWhole, IsRolePart, IsTagChange, IsTagPart, IsTimeZone}
use Rattle.rg_download_wire.specs.Parts.{change_type_of, policy_change_of, policy_delta_of, policy_whole_of, role_whole_of, tag_change_of, tag_delta_of, tag_whole_of}
use Rattle.rg_download_wire.specs.Reading.{after, by_delta, by_whole, in_map, policies_by_delta, policies_by_whole, policy_part_in, role_part_in, roles_by_whole, tag_part_in, tags_by_delta, tags_by_whole}
use Rattle.rg_download_wire.proofs.Owned.{IsGiven, option_own, policy_own, time_zone_own}

-- ---- what they hold

type_own : (d : Data) → change_type_of d ≤ 255
unfolding change_type_of
type_own d = omega arith

policy_change_own : (d : Data) → IsOrderly d → IsPolicyChange (policy_change_of d)
unfolding policy_change_of
policy_change_own d is = record { kind = type_own d; policy = policy_own _ (within_orderly (name_of key.Policy) d is) }

zones_own : (d : Data) → IsOrderly d → OwnList IsZone (list_of zone_of d)
zones_own d is = list_of_own IsZone zone_of zone_own d is

policy_delta_own : (d : Data) → IsOrderly d → IsPolicyDelta (policy_delta_of d)
unfolding policy_delta_of
policy_delta_own d is = record {
  changes = list_own IsPolicyChange policy_change_of policy_change_own (name_of key.Changes) d is;
  zones = option_own (OwnList IsZone) (list_of zone_of) zones_own (name_of key.Zones) d is;
}

policy_whole_own : (d : Data) → IsOrderly d → IsPolicyWhole (policy_whole_of d)
unfolding policy_whole_of
policy_whole_own d is = record {
  def = def_own _ (within_orderly (name_of key.Def) d is);
  tag_def = option_own IsDef service_def_of def_own (name_of key.TagDef) d is;
  policies = list_own IsPolicy policy_of policy_own (name_of key.Policies) d is;
  tag_policies = list_own IsPolicy policy_of policy_own (name_of key.TagPolicies) d is;
  zones = list_own IsZone zone_of zone_own (name_of key.Zones) d is;
  time_zones = list_own IsTimeZone time_zone_of time_zone_own (name_of key.TimeZones) d is;
}

tag_change_own : (d : Data) → IsOrderly d → IsTagChange (tag_change_of d)
unfolding tag_change_of
tag_change_own d is = record { kind = type_own d; row = tag_row_own _ (within_orderly (name_of key.Row) d is) }

policies_delta_own : (d : Data) → IsOrderly d → IsPolicyPart (policies_by_delta d)
unfolding IsPolicyPart
policies_delta_own d is = policy_delta_own d is

policies_whole_own : (d : Data) → IsOrderly d → IsPolicyPart (policies_by_whole d)
unfolding IsPolicyPart
policies_whole_own d is = policy_whole_own d is

tags_delta_own : (d : Data) → IsOrderly d → IsTagPart (tags_by_delta d)
unfolding IsTagPart tag_delta_of
tags_delta_own d is = list_own IsTagChange tag_change_of tag_change_own (name_of key.Changes) d is

tags_whole_own : (d : Data) → IsOrderly d → IsTagPart (tags_by_whole d)
unfolding IsTagPart tag_whole_of
tags_whole_own d is = list_own IsTagRow tag_row_of tag_row_own (name_of key.Rows) d is

roles_whole_own : (d : Data) → IsOrderly d → IsRolePart (roles_by_whole d)
unfolding IsRolePart role_whole_of
roles_whole_own d is = list_own IsRole role_of role_own (name_of key.Roles) d is

-- ---- texts

module _ {P : Type 0} (own : P → Type 0) (p : P) where
  -- the reading has what is true of it, where it is this part
  abbrev Gives : Result P Fault → Type 0
  Gives read = IsGiven p read → own p

  given : (x : P) (o : Option Fault) → own x → Gives (unless_fault x o)
  given x None is same = subst own same is
  given x (Some fault) is same = absurd same

  whole_gives : (shape : Shape) (made : Data → P) → ((d : Data) → IsOrderly d → own (made d)) → (o : Option Data) → Found o → Gives (by_whole shape made o)
  whole_gives shape made f None is same = absurd same
  whole_gives shape made f (Some d) is same = given (made d) (fault_of shape d) (f d is) same

  delta_gives : (shape : Shape) (made : Data → P) → ((d : Data) → IsOrderly d → own (made d)) → (o : Option Data) (other : Result P Fault) → Found o → Gives other → Gives (by_delta shape made o other)
  delta_gives shape made f None other is gives same = gives same
  delta_gives shape made f (Some d) other is gives same = given (made d) (fault_of shape d) (f d is) same

  map_gives : (b : Bool) (read : Result P Fault) → Gives read → Gives (after (if b then None else here Mistyped) read)
  map_gives true read gives same = gives same
  map_gives false read gives same = absurd same

  text_gives : (taken : Data → Result P Fault) → ((d : Data) → IsOrderly d → Gives (taken d)) → (json : Option Data) → IfSome json IsOrderly → in_map taken json ≡ Ok p → own p
  text_gives taken f None is read = absurd (subst (IsGiven p) (sym read) refl)
  text_gives taken f (Some d) is read = map_gives (is_some (as_object d)) (taken d) (f d is) (subst (IsGiven p) (sym read) refl)

pub policies_in_order : (json : Option Data) → IfSome json IsOrderly → (p : PolicyPart) → in_map policy_part_in json ≡ Ok p → IsPolicyPart p
policies_in_order json is p read = text_gives IsPolicyPart p policy_part_in (λ d orderly.
    delta_gives IsPolicyPart p policy_delta_shape policies_by_delta policies_delta_own (field (name_of key.Delta) d) _ (field_found (name_of key.Delta) d orderly)
    (whole_gives IsPolicyPart p policy_whole_shape policies_by_whole policies_whole_own (field (name_of key.Whole) d) (field_found (name_of key.Whole) d orderly))) json is read

pub tags_in_order : (json : Option Data) → IfSome json IsOrderly → (p : TagPart) → in_map tag_part_in json ≡ Ok p → IsTagPart p
tags_in_order json is p read = text_gives IsTagPart p tag_part_in (λ d orderly.
    delta_gives IsTagPart p tag_delta_shape tags_by_delta tags_delta_own (field (name_of key.Delta) d) _ (field_found (name_of key.Delta) d orderly)
    (whole_gives IsTagPart p tag_whole_shape tags_by_whole tags_whole_own (field (name_of key.Whole) d) (field_found (name_of key.Whole) d orderly))) json is read

pub roles_in_order : (json : Option Data) → IfSome json IsOrderly → (p : RolePart) → in_map role_part_in json ≡ Ok p → IsRolePart p
roles_in_order json is p read = text_gives IsRolePart p role_part_in (λ d orderly.
    whole_gives IsRolePart p role_whole_shape roles_by_whole roles_whole_own (field (name_of key.Whole) d) (field_found (name_of key.Whole) d orderly)) json is read
