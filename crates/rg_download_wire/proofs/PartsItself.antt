-- Parts of a download that were printed are read again as themselves, from their text.
use Rattle.std.proofs.Common.{◌≡◌, ◌≤◌, [], ◌∷◌, false, Some, None, option_and_then, Result, Ok, refl, ap, subst, ◌∙◌, arith}
use Rattle.serde_json.specs.Data.{Data, depth, no_members}
use Rattle.serde_json.specs.Read.{max_depth}
use Rattle.serde_json.specs.Written.{compact_text, has_float}
use Rattle.rg_cmd.specs.declared.download.PolicyDelta.{PolicyDelta}
use Rattle.rg_cmd.specs.declared.download.PolicyPart.{PolicyPart}
use Rattle.rg_cmd.specs.declared.download.PolicyPart.TheVariants as policies
use Rattle.rg_cmd.specs.declared.download.PolicyWhole.{PolicyWhole}
use Rattle.rg_cmd.specs.declared.download.RolePart.{RolePart}
use Rattle.rg_cmd.specs.declared.download.RolePart.TheVariants as roles
use Rattle.rg_cmd.specs.declared.download.RoleWhole.{RoleWhole}
use Rattle.rg_cmd.specs.declared.download.TagDelta.{TagDelta}
use Rattle.rg_cmd.specs.declared.download.TagPart.{TagPart}
use Rattle.rg_cmd.specs.declared.download.TagPart.TheVariants as tags
use Rattle.rg_cmd.specs.declared.download.TagWhole.{TagWhole}
use Rattle.rg_json.specs.declared.fault.Fault.{Fault}
use Rattle.rg_json.specs.Faults.{fault_of}
use Rattle.rg_json.specs.Fields.{field, unless_null}
use Rattle.rg_json.specs.Reading.{unless_fault}
use Rattle.rg_json.specs.Shape.{Shape}
use Rattle.rg_json.specs.Texts.{data_of}
use Rattle.rg_json.proofs.Again.{get_with}
use Rattle.rg_json.proofs.Right.{field_found}
use Rattle.rg_wire.specs.declared.key.Key.TheVariants as key
use Rattle.rg_wire.specs.Names.{name_of}
use Rattle.rg_wire.specs.Shapes.{policy_delta_shape, policy_whole_shape, role_whole_shape, tag_delta_shape, tag_whole_shape}
use Rattle.rg_cmd_wire.specs.PrintedNames.{name_of as printed_name, only_data}
use Rattle.rg_cmd_wire.specs.PrintedParts.{policy_delta_data, policy_part_data, policy_part_text, policy_whole_data, role_part_data, role_part_text, role_whole_data, tag_delta_data, tag_part_data, tag_part_text, tag_whole_data}
use Rattle.rg_cmd_wire.specs.declared.reply_key.ReplyKey.{ReplyKey}
use Rattle.rg_cmd_wire.specs.declared.reply_key.ReplyKey.TheVariants as own
use Rattle.rg_cmd_wire.proofs.Plain.{policy_part_has_no_float, role_part_has_no_float, tag_part_has_no_float}
use Rattle.rg_download_wire.specs.InOrder.{IsPolicyPart, IsRolePart, IsTagPart}
use Rattle.rg_download_wire.specs.Reading.{by_delta, by_whole, in_map, policies_by_delta, policies_by_whole, policy_part_in, policy_part_reading, role_part_in, role_part_reading, roles_by_whole, tag_part_in, tag_part_reading, tags_by_delta, tags_by_whole}
use Rattle.rg_download_wire.proofs.PartsAgain.{policy_delta_again, policy_whole_again, role_whole_again, tag_delta_again, tag_whole_again}
use Rattle.rg_download_wire.proofs.PartsPlain.{policy_part_is_shallow, role_part_is_shallow, tag_part_is_shallow}
use Rattle.rg_download_wire.proofs.PartsRight.{policy_delta_right, policy_whole_right, role_whole_right, tag_delta_right, tag_whole_right}

-- ---- the field of a part

delta_at : (d : Data) → unless_null d ≡ Some d → field (name_of key.Delta) (only_data own.Delta d) ≡ Some d
unfolding only_data name_of printed_name
delta_at d there = field_found (name_of key.Delta) d (only_data own.Delta d) (get_with printed_name (name_of key.Delta) ((own.Delta, d) ∷ []) no_members) there

no_delta : (d : Data) → field (name_of key.Delta) (only_data own.Whole d) ≡ None
unfolding field only_data name_of printed_name
no_delta d = ap (option_and_then unless_null) (get_with printed_name (name_of key.Delta) ((own.Whole, d) ∷ []) no_members)

whole_at : (d : Data) → unless_null d ≡ Some d → field (name_of key.Whole) (only_data own.Whole d) ≡ Some d
unfolding only_data name_of printed_name
whole_at d there = field_found (name_of key.Whole) d (only_data own.Whole d) (get_with printed_name (name_of key.Whole) ((own.Whole, d) ∷ []) no_members) there

module _ {P : Type 0} (shape : Shape) (made : Data → P) (p : P) (d : Data) (there : unless_null d ≡ Some d) (right : fault_of shape d ≡ None) (again : made d ≡ p) where
  made_again : unless_fault (made d) (fault_of shape d) ≡ Ok p
  made_again = ap (unless_fault (made d)) right ∙ ap Ok again

  delta_again : (other : Result P Fault) → by_delta shape made (field (name_of key.Delta) (only_data own.Delta d)) other ≡ Ok p
  delta_again other = ap (λ o. by_delta shape made o other) (delta_at d there) ∙ made_again

  whole_again : by_whole shape made (field (name_of key.Whole) (only_data own.Whole d)) ≡ Ok p
  whole_again = ap (by_whole shape made) (whole_at d there) ∙ made_again

-- where there is no delta the whole is taken
without : {P : Type 0} (shape : Shape) (made : Data → P) (p : P) (d : Data) (read : Result P Fault) → read ≡ Ok p → by_delta shape made (field (name_of key.Delta) (only_data own.Whole d)) read ≡ Ok p
without shape made p d read is = ap (λ o. by_delta shape made o read) (no_delta d) ∙ is

-- a part is printed as a map
taken_of_map : {P : Type 0} (taken : Data → Result P Fault) (k : ReplyKey) (d : Data) → in_map taken (Some (only_data k d)) ≡ taken (only_data k d)
unfolding only_data
taken_of_map taken k d = refl

-- ---- what the field has is not null

policy_delta_there : (x : PolicyDelta) → unless_null (policy_delta_data x) ≡ Some (policy_delta_data x)
unfolding policy_delta_data
policy_delta_there x = refl

policy_whole_there : (x : PolicyWhole) → unless_null (policy_whole_data x) ≡ Some (policy_whole_data x)
unfolding policy_whole_data
policy_whole_there x = refl

tag_delta_there : (x : TagDelta) → unless_null (tag_delta_data x) ≡ Some (tag_delta_data x)
unfolding tag_delta_data
tag_delta_there x = refl

tag_whole_there : (x : TagWhole) → unless_null (tag_whole_data x) ≡ Some (tag_whole_data x)
unfolding tag_whole_data
tag_whole_there x = refl

role_whole_there : (x : RoleWhole) → unless_null (role_whole_data x) ≡ Some (role_whole_data x)
unfolding role_whole_data
role_whole_there x = refl

-- ---- parts

policies_again : (p : PolicyPart) → IsPolicyPart p → in_map policy_part_in (Some (policy_part_data p)) ≡ Ok p
unfolding IsPolicyPart policy_part_data
policies_again policies.Unchanged is = absurd is
policies_again (policies.Delta x) is = taken_of_map policy_part_in own.Delta (policy_delta_data x)
    ∙ delta_again policy_delta_shape policies_by_delta (policies.Delta x) (policy_delta_data x) (policy_delta_there x) (policy_delta_right x is) (ap policies.Delta (policy_delta_again x is)) _
policies_again (policies.Whole w) is = taken_of_map policy_part_in own.Whole (policy_whole_data w)
    ∙ without policy_delta_shape policies_by_delta (policies.Whole w) (policy_whole_data w) _
    (whole_again policy_whole_shape policies_by_whole (policies.Whole w) (policy_whole_data w) (policy_whole_there w) (policy_whole_right w is) (ap policies.Whole (policy_whole_again w is)))

tags_again : (p : TagPart) → IsTagPart p → in_map tag_part_in (Some (tag_part_data p)) ≡ Ok p
unfolding IsTagPart tag_part_data
tags_again tags.Unchanged is = absurd is
tags_again (tags.Delta x) is = taken_of_map tag_part_in own.Delta (tag_delta_data x)
    ∙ delta_again tag_delta_shape tags_by_delta (tags.Delta x) (tag_delta_data x) (tag_delta_there x) (tag_delta_right x is) (ap tags.Delta (tag_delta_again x is)) _
tags_again (tags.Whole w) is = taken_of_map tag_part_in own.Whole (tag_whole_data w)
    ∙ without tag_delta_shape tags_by_delta (tags.Whole w) (tag_whole_data w) _
    (whole_again tag_whole_shape tags_by_whole (tags.Whole w) (tag_whole_data w) (tag_whole_there w) (tag_whole_right w is) (ap tags.Whole (tag_whole_again w is)))

roles_again : (p : RolePart) → IsRolePart p → in_map role_part_in (Some (role_part_data p)) ≡ Ok p
unfolding IsRolePart role_part_data
roles_again roles.Unchanged is = absurd is
roles_again (roles.Whole w) is = taken_of_map role_part_in own.Whole (role_whole_data w)
    ∙ whole_again role_whole_shape roles_by_whole (roles.Whole w) (role_whole_data w) (role_whole_there w) (role_whole_right w) (ap roles.Whole (role_whole_again w is))

-- ---- texts

abbrev Back : Data → Type 0
Back d = has_float d ≡ false → depth d ≤ max_depth → data_of (compact_text d) ≡ Some d

back_of : (d e : Data) → d ≡ e → Back d → has_float e ≡ false → depth e ≤ max_depth → data_of (compact_text e) ≡ Some e
back_of d e seen back plain shallow =
    let low : depth d ≤ max_depth = omega (arith, ap depth seen, shallow) in
    subst (λ x. data_of (compact_text x) ≡ Some x) seen (back (ap has_float seen ∙ plain) low)

pub policies_printed_again : (p : PolicyPart) (d : Data) → d ≡ policy_part_data p → Back d → IsPolicyPart p → policy_part_reading (policy_part_text p) ≡ Ok p
unfolding policy_part_text
policies_printed_again p d seen back is = ap (in_map policy_part_in) (back_of d _ seen back (policy_part_has_no_float p) (policy_part_is_shallow p)) ∙ policies_again p is

pub tags_printed_again : (p : TagPart) (d : Data) → d ≡ tag_part_data p → Back d → IsTagPart p → tag_part_reading (tag_part_text p) ≡ Ok p
unfolding tag_part_text
tags_printed_again p d seen back is = ap (in_map tag_part_in) (back_of d _ seen back (tag_part_has_no_float p) (tag_part_is_shallow p)) ∙ tags_again p is

pub roles_printed_again : (p : RolePart) (d : Data) → d ≡ role_part_data p → Back d → IsRolePart p → role_part_reading (role_part_text p) ≡ Ok p
unfolding role_part_text
roles_printed_again p d seen back is = ap (in_map role_part_in) (back_of d _ seen back (role_part_has_no_float p) (role_part_is_shallow p)) ∙ roles_again p is
