-- What the parts of a download hold that JSON stands for, field by field.
use Rattle.std.specs.Prelude.{ℕ, false, min}
use Rattle.serde_json.specs.Data.{Data}
use Rattle.rg_base.specs.declared.numbers.Version.{Version}
use Rattle.rg_cmd.specs.declared.changes.PolicyChange.{PolicyChange}
use Rattle.rg_cmd.specs.declared.changes.TagChange.{TagChange}
use Rattle.rg_cmd.specs.declared.download.PolicyDelta.{PolicyDelta}
use Rattle.rg_cmd.specs.declared.download.PolicyWhole.{PolicyWhole}
use Rattle.rg_cmd.specs.declared.download.RoleWhole.{RoleWhole}
use Rattle.rg_cmd.specs.declared.download.TagDelta.{TagDelta}
use Rattle.rg_cmd.specs.declared.download.TagWhole.{TagWhole}
use Rattle.rg_json.specs.Fields.{list_of}
use Rattle.rg_wire.specs.declared.key.Key.{Key}
use Rattle.rg_wire.specs.declared.key.Key.TheVariants as key
use Rattle.rg_wire.specs.Fields.{within, bool_at, u64_at, list_at, optional_at}
use Rattle.rg_wire.specs.Records.{policy_of, role_of, service_def_of, tag_row_of, time_zone_of, zone_of}

abbrev pub version_at : Key → Data → Version
version_at key d = record { 0 = u64_at 0 key d }

-- any over 255 is no type of a change, and counts as 255, which is none either
unfoldable pub change_type_of : Data → ℕ
change_type_of d = min (u64_at 0 key.ChangeType d) 255

-- ---- policies

unfoldable pub policy_change_of : Data → PolicyChange
policy_change_of d = record {
  change_type = change_type_of d;
  tag = bool_at false key.Tag d;
  policy = policy_of (within key.Policy d);
}

-- no zones where they are missing or null
unfoldable pub policy_delta_of : Data → PolicyDelta
policy_delta_of d = record {
  from = version_at key.From d;
  to = version_at key.To d;
  changes = list_at policy_change_of key.Changes d;
  zones = optional_at (list_of zone_of) key.Zones d;
}

unfoldable pub policy_whole_of : Data → PolicyWhole
policy_whole_of d = record {
  version = version_at key.Version d;
  fallback = bool_at false key.Fallback d;
  def = service_def_of (within key.Def d);
  tag_def = optional_at service_def_of key.TagDef d;
  policies = list_at policy_of key.Policies d;
  tag_policies = list_at policy_of key.TagPolicies d;
  zones = list_at zone_of key.Zones d;
  time_zones = list_at time_zone_of key.TimeZones d;
}

-- ---- tag rows

unfoldable pub tag_change_of : Data → TagChange
tag_change_of d = record { change_type = change_type_of d; row = tag_row_of (within key.Row d) }

unfoldable pub tag_delta_of : Data → TagDelta
tag_delta_of d = record { from = version_at key.From d; to = version_at key.To d; changes = list_at tag_change_of key.Changes d }

unfoldable pub tag_whole_of : Data → TagWhole
tag_whole_of d = record { version = version_at key.Version d; rows = list_at tag_row_of key.Rows d }

-- ---- roles

unfoldable pub role_whole_of : Data → RoleWhole
role_whole_of d = record { version = version_at key.Version d; roles = list_at role_of key.Roles d }
