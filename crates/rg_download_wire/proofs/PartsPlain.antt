-- What is printed for a part of a download nests a few levels.
use Rattle.std.proofs.Common.{◌≤◌, [], ◌∷◌, refl, arith}
use Rattle.serde_json.specs.Data.{Data, depth}
use Rattle.serde_json.specs.Read.{max_depth}
use Rattle.rg_base.specs.Listed.{Listed}
use Rattle.rg_cmd.specs.declared.changes.PolicyChange.{PolicyChange}
use Rattle.rg_cmd.specs.declared.changes.TagChange.{TagChange}
use Rattle.rg_cmd.specs.declared.download.PolicyDelta.{PolicyDelta}
use Rattle.rg_cmd.specs.declared.download.PolicyPart.{PolicyPart}
use Rattle.rg_cmd.specs.declared.download.PolicyPart.TheVariants as policies
use Rattle.rg_cmd.specs.declared.download.PolicyWhole.{PolicyWhole}
use Rattle.rg_cmd.specs.declared.download.RolePart.{RolePart}
use Rattle.rg_cmd.specs.declared.download.RolePart.TheVariants as roles
use Rattle.rg_cmd.specs.declared.download.RoleWhole.{RoleWhole}
use Rattle.rg_cmd.specs.declared.download.TagDelta.{TagDelta}
use Rattle.rg_cmd.specs.declared.download.TagPart.{TagPart}
use Rattle.rg_cmd.specs.declared.download.TagPart.TheVariants as tags
use Rattle.rg_cmd.specs.declared.download.TagWhole.{TagWhole}
use Rattle.rg_json.specs.Printing.{list_data}
use Rattle.rg_json.proofs.Plain.{Plain, bool_plain, count_plain, list_plain, object_plain, option_plain}
use Rattle.rg_wire.proofs.Plain.{policy_plain}
use Rattle.rg_zone_rules.specs.declared.row.ZoneRow.{ZoneRow}
use Rattle.rg_cmd_wire.specs.PrintedNames.{name_of, only_data}
use Rattle.rg_cmd_wire.specs.PrintedParts.{policy_change_data, policy_change_members, policy_delta_data, policy_delta_members, policy_part_data, policy_whole_data, policy_whole_members, role_part_data, role_whole_data, role_whole_members, tag_change_data, tag_change_members, tag_delta_data, tag_delta_members, tag_part_data, tag_whole_data, tag_whole_members, unchanged_data}
use Rattle.rg_cmd_wire.specs.PrintedRows.{def_data, role_data, tag_row_data, zone_data}
use Rattle.rg_cmd_wire.specs.declared.reply_key.ReplyKey.{ReplyKey}
use Rattle.rg_cmd_wire.proofs.Plain.{def_plain, role_plain, tag_row_plain, zone_plain}
use Rattle.rg_download_wire.proofs.Plain.{policies_plain, time_zones_plain}

only_plain : (k : ReplyKey) (d : Data) → Plain 9 d → Plain 10 (only_data k d)
unfolding only_data
only_plain k d p = object_plain name_of 9 10 ((k, d) ∷ []) (omega arith) (p, tt)

-- ---- policies

policy_change_plain : (c : PolicyChange) → Plain 7 (policy_change_data c)
unfolding policy_change_data
policy_change_plain c = object_plain name_of 6 7 (policy_change_members c) (omega arith) (count_plain 6 c.change_type, (bool_plain 6 c.tag, (policy_plain c.policy, tt)))

zones_plain : (zs : Listed ZoneRow) → Plain 8 (list_data zone_data zs)
zones_plain zs = list_plain 6 8 zone_data zs (omega arith) zone_plain

policy_delta_plain : (x : PolicyDelta) → Plain 9 (policy_delta_data x)
unfolding policy_delta_data
policy_delta_plain x = object_plain name_of 8 9 (policy_delta_members x) (omega arith) (
  count_plain 8 x.from.0,
  (
    count_plain 8 x.to.0,
    (
      list_plain 7 8 policy_change_data x.changes (omega arith) policy_change_plain,
      (
        option_plain 8 (list_data zone_data) x.zones zones_plain,
        tt,
      ),
    ),
  ),
)

policy_whole_plain : (w : PolicyWhole) → Plain 9 (policy_whole_data w)
unfolding policy_whole_data
policy_whole_plain w = object_plain name_of 8 9 (policy_whole_members w) (omega arith) (
  count_plain 8 w.version.0,
  (
    bool_plain 8 w.fallback,
    (
      def_plain 8 w.def (omega arith),
      (
        option_plain 8 def_data w.tag_def (λ d. def_plain 8 d (omega arith)),
        (
          policies_plain 8 w.policies (omega arith),
          (
            policies_plain 8 w.tag_policies (omega arith),
            (
              zones_plain w.zones,
              (
                time_zones_plain 8 w.time_zones (omega arith),
                tt,
              ),
            ),
          ),
        ),
      ),
    ),
  ),
)

-- ---- tag rows and roles

tag_change_plain : (c : TagChange) → Plain 5 (tag_change_data c)
unfolding tag_change_data
tag_change_plain c = object_plain name_of 4 5 (tag_change_members c) (omega arith) (count_plain 4 c.change_type, (tag_row_plain c.row, tt))

tag_delta_plain : (x : TagDelta) → Plain 9 (tag_delta_data x)
unfolding tag_delta_data
tag_delta_plain x = object_plain name_of 8 9 (tag_delta_members x) (omega arith) (count_plain 8 x.from.0, (count_plain 8 x.to.0, (list_plain 5 8 tag_change_data x.changes (omega arith) tag_change_plain, tt)))

tag_whole_plain : (w : TagWhole) → Plain 9 (tag_whole_data w)
unfolding tag_whole_data
tag_whole_plain w = object_plain name_of 8 9 (tag_whole_members w) (omega arith) (count_plain 8 w.version.0, (list_plain 4 8 tag_row_data w.rows (omega arith) tag_row_plain, tt))

role_whole_plain : (w : RoleWhole) → Plain 9 (role_whole_data w)
unfolding role_whole_data
role_whole_plain w = object_plain name_of 8 9 (role_whole_members w) (omega arith) (count_plain 8 w.version.0, (list_plain 2 8 role_data w.roles (omega arith) role_plain, tt))

-- ---- parts

unchanged_plain : Plain 10 unchanged_data
unchanged_plain = (refl, omega arith)

policy_part_plain : (p : PolicyPart) → Plain 10 (policy_part_data p)
unfolding policy_part_data
policy_part_plain policies.Unchanged = unchanged_plain
policy_part_plain (policies.Delta x) = only_plain _ _ (policy_delta_plain x)
policy_part_plain (policies.Whole w) = only_plain _ _ (policy_whole_plain w)

tag_part_plain : (p : TagPart) → Plain 10 (tag_part_data p)
unfolding tag_part_data
tag_part_plain tags.Unchanged = unchanged_plain
tag_part_plain (tags.Delta x) = only_plain _ _ (tag_delta_plain x)
tag_part_plain (tags.Whole w) = only_plain _ _ (tag_whole_plain w)

role_part_plain : (p : RolePart) → Plain 10 (role_part_data p)
unfolding role_part_data
role_part_plain roles.Unchanged = unchanged_plain
role_part_plain (roles.Whole w) = only_plain _ _ (role_whole_plain w)

pub policy_part_is_shallow : (p : PolicyPart) → depth (policy_part_data p) ≤ max_depth
policy_part_is_shallow p = omega (arith, (policy_part_plain p).1)

pub tag_part_is_shallow : (p : TagPart) → depth (tag_part_data p) ≤ max_depth
tag_part_is_shallow p = omega (arith, (tag_part_plain p).1)

pub role_part_is_shallow : (p : RolePart) → depth (role_part_data p) ≤ max_depth
role_part_is_shallow p = omega (arith, (role_part_plain p).1)
