-- What is printed for the parts of a download.
use Rattle.std.specs.Prelude.{ℕ, List, [], ◌∷◌, codes}
use Rattle.serde_json.specs.Data.{Data, string}
use Rattle.serde_json.specs.Written.{compact_text}
use Rattle.rg_json.specs.Printing.{bool_data, count_data, list_data, option_data}
use Rattle.rg_wire.specs.Printing.{policy_data}
use Rattle.rg_wire.specs.declared.key.Key.TheVariants as key
use Rattle.rg_cmd.specs.declared.changes.PolicyChange.{PolicyChange}
use Rattle.rg_cmd.specs.declared.changes.TagChange.{TagChange}
use Rattle.rg_cmd.specs.declared.download.PolicyDelta.{PolicyDelta}
use Rattle.rg_cmd.specs.declared.download.PolicyPart.{PolicyPart}
use Rattle.rg_cmd.specs.declared.download.PolicyPart.TheVariants as policies
use Rattle.rg_cmd.specs.declared.download.PolicyWhole.{PolicyWhole}
use Rattle.rg_cmd.specs.declared.download.RolePart.{RolePart}
use Rattle.rg_cmd.specs.declared.download.RolePart.TheVariants as roles
use Rattle.rg_cmd.specs.declared.download.RoleWhole.{RoleWhole}
use Rattle.rg_cmd.specs.declared.download.TagDelta.{TagDelta}
use Rattle.rg_cmd.specs.declared.download.TagPart.{TagPart}
use Rattle.rg_cmd.specs.declared.download.TagPart.TheVariants as tags
use Rattle.rg_cmd.specs.declared.download.TagWhole.{TagWhole}
use Rattle.rg_cmd_wire.specs.PrintedNames.{object_of, only_data}
use Rattle.rg_cmd_wire.specs.PrintedRows.{def_data, role_data, tag_row_data, time_zone_data, zone_data}
use Rattle.rg_cmd_wire.specs.declared.reply_key.ReplyKey.{ReplyKey}
use Rattle.rg_cmd_wire.specs.declared.reply_key.ReplyKey.TheVariants as own
use Rattle.rg_cmd_wire.specs.declared.reply_key.ReplyKey.TheVariants.{Wire}

-- ---- what each part holds

abbrev pub policy_change_members : PolicyChange → List (ReplyKey × Data)
policy_change_members c =
    (own.ChangeType, count_data c.change_type) ∷
    (own.Tag, bool_data c.tag) ∷
    (Wire key.Policy, policy_data c.policy) ∷ []

unfoldable pub policy_change_data : PolicyChange → Data
policy_change_data c = object_of (policy_change_members c)

-- the zones are null where no change was of a zone
abbrev pub policy_delta_members : PolicyDelta → List (ReplyKey × Data)
policy_delta_members d =
    (own.From, count_data d.from.0) ∷
    (own.To, count_data d.to.0) ∷
    (own.Changes, list_data policy_change_data d.changes) ∷
    (Wire key.Zones, option_data (list_data zone_data) d.zones) ∷ []

unfoldable pub policy_delta_data : PolicyDelta → Data
policy_delta_data d = object_of (policy_delta_members d)

abbrev pub policy_whole_members : PolicyWhole → List (ReplyKey × Data)
policy_whole_members w =
    (Wire key.Version, count_data w.version.0) ∷
    (Wire key.Fallback, bool_data w.fallback) ∷
    (Wire key.Def, def_data w.def) ∷
    (own.TagDef, option_data def_data w.tag_def) ∷
    (Wire key.Policies, list_data policy_data w.policies) ∷
    (Wire key.TagPolicies, list_data policy_data w.tag_policies) ∷
    (Wire key.Zones, list_data zone_data w.zones) ∷
    (Wire key.TimeZones, list_data time_zone_data w.time_zones) ∷ []

unfoldable pub policy_whole_data : PolicyWhole → Data
policy_whole_data w = object_of (policy_whole_members w)

abbrev pub tag_change_members : TagChange → List (ReplyKey × Data)
tag_change_members c =
    (own.ChangeType, count_data c.change_type) ∷
    (Wire key.Row, tag_row_data c.row) ∷ []

unfoldable pub tag_change_data : TagChange → Data
tag_change_data c = object_of (tag_change_members c)

abbrev pub tag_delta_members : TagDelta → List (ReplyKey × Data)
tag_delta_members d =
    (own.From, count_data d.from.0) ∷
    (own.To, count_data d.to.0) ∷
    (own.Changes, list_data tag_change_data d.changes) ∷ []

unfoldable pub tag_delta_data : TagDelta → Data
tag_delta_data d = object_of (tag_delta_members d)

abbrev pub tag_whole_members : TagWhole → List (ReplyKey × Data)
tag_whole_members w =
    (Wire key.Version, count_data w.version.0) ∷
    (own.Rows, list_data tag_row_data w.rows) ∷ []

unfoldable pub tag_whole_data : TagWhole → Data
tag_whole_data w = object_of (tag_whole_members w)

abbrev pub role_whole_members : RoleWhole → List (ReplyKey × Data)
role_whole_members w =
    (Wire key.Version, count_data w.version.0) ∷
    (Wire key.Roles, list_data role_data w.roles) ∷ []

unfoldable pub role_whole_data : RoleWhole → Data
role_whole_data w = object_of (role_whole_members w)

-- ---- the parts

abbrev pub unchanged_data : Data
unchanged_data = string (codes "unchanged")

-- a map whose one field says what the part is
unfoldable pub policy_part_data : PolicyPart → Data
policy_part_data policies.Unchanged = unchanged_data
policy_part_data (policies.Delta d) = only_data own.Delta (policy_delta_data d)
policy_part_data (policies.Whole w) = only_data own.Whole (policy_whole_data w)

unfoldable pub tag_part_data : TagPart → Data
tag_part_data tags.Unchanged = unchanged_data
tag_part_data (tags.Delta d) = only_data own.Delta (tag_delta_data d)
tag_part_data (tags.Whole w) = only_data own.Whole (tag_whole_data w)

unfoldable pub role_part_data : RolePart → Data
role_part_data roles.Unchanged = unchanged_data
role_part_data (roles.Whole w) = only_data own.Whole (role_whole_data w)

-- the texts of the parts
unfoldable pub policy_part_text : PolicyPart → List ℕ
policy_part_text p = compact_text (policy_part_data p)

unfoldable pub tag_part_text : TagPart → List ℕ
tag_part_text p = compact_text (tag_part_data p)

unfoldable pub role_part_text : RolePart → List ℕ
role_part_text p = compact_text (role_part_data p)
