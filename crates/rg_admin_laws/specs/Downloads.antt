-- What a service's plugin downloads.
use Rattle.std.specs.Prelude.{ℕ, ◌==◌, Bool, true, false, List, Option, Some, None, if◌then◌else◌}
use Rattle.std.specs.List.{filter_map, list_any}
use Rattle.rg_base.specs.Listed.{listed}
use Rattle.rg_base.specs.declared.numbers.Version.{Version}
use Rattle.rg_facts.specs.declared.facts.Facts.{Facts}
use Rattle.rg_cmd.specs.declared.changes.Log.{Log}
use Rattle.rg_cmd.specs.declared.changes.LogEntry.{LogEntry}
use Rattle.rg_cmd.specs.declared.changes.LogEntry.TheVariants.{Policy as OfPolicy, Zones}
use Rattle.rg_cmd.specs.declared.changes.PolicyChange.{PolicyChange}
use Rattle.rg_cmd.specs.declared.changes.TagChange.{TagChange}
use Rattle.rg_cmd.specs.declared.download.Download.{Download}
use Rattle.rg_cmd.specs.declared.download.PolicyDelta.{PolicyDelta}
use Rattle.rg_cmd.specs.declared.download.PolicyPart.{PolicyPart}
use Rattle.rg_cmd.specs.declared.download.PolicyPart.TheVariants.{Unchanged as PoliciesUnchanged, Delta as PoliciesDelta, Whole as PoliciesWhole}
use Rattle.rg_cmd.specs.declared.download.PolicyWhole.{PolicyWhole}
use Rattle.rg_cmd.specs.declared.download.RolePart.{RolePart}
use Rattle.rg_cmd.specs.declared.download.RolePart.TheVariants.{Unchanged as RolesUnchanged, Whole as RolesWhole}
use Rattle.rg_cmd.specs.declared.download.RoleWhole.{RoleWhole}
use Rattle.rg_cmd.specs.declared.download.TagDelta.{TagDelta}
use Rattle.rg_cmd.specs.declared.download.TagPart.{TagPart}
use Rattle.rg_cmd.specs.declared.download.TagPart.TheVariants.{Unchanged as TagsUnchanged, Delta as TagsDelta, Whole as TagsWhole}
use Rattle.rg_cmd.specs.declared.download.TagWhole.{TagWhole}
use Rattle.rg_delta.specs.Logs.{Book, Known, changes_after}
use Rattle.rg_delta.specs.Logs.Known.{Nothing, These, Unknown}
use Rattle.rg_admin_laws.specs.Logs.{Administration, log_at, policy_book, tag_book}
use Rattle.rg_admin_laws.specs.Views.{view}

-- ---- the policies

-- the change of a policy, where the log notes one
abbrev pub policy_change : LogEntry → Option PolicyChange
policy_change (OfPolicy change) = Some change
policy_change Zones = None

abbrev pub is_of_zones : LogEntry → Bool
is_of_zones (OfPolicy change) = false
is_of_zones Zones = true

-- the changes in order, and the present zones where one of them was of a zone
abbrev pub policy_delta : Facts → Version → List LogEntry → PolicyDelta
policy_delta present from entries = record {
  from = from;
  to = present.policy_version;
  changes = listed (filter_map policy_change entries);
  zones = if list_any is_of_zones entries then Some present.zones else None;
}

abbrev pub policy_whole : Facts → PolicyWhole
policy_whole present = record {
  version = present.policy_version;
  fallback = present.fallback;
  def = present.def;
  tag_def = present.tag_def;
  policies = present.policies;
  tag_policies = present.tag_policies;
  zones = present.zones;
  time_zones = present.time_zones;
}

-- by what the log knows of the changes after the version
abbrev pub policy_part_by : Facts → Version → Known LogEntry → PolicyPart
policy_part_by present from Nothing = PoliciesUnchanged
policy_part_by present from (These entries) = PoliciesDelta (policy_delta present from entries)
policy_part_by present from Unknown = PoliciesWhole (policy_whole present)

-- Unchanged from the present version, from an earlier one the changes after it where all are kept, else Whole
abbrev pub policy_part : Facts → Book LogEntry → Option Version → PolicyPart
policy_part present book None = PoliciesWhole (policy_whole present)
policy_part present book (Some from) = policy_part_by present from (changes_after book from.0)

-- ---- the tag rows

abbrev pub tag_delta : Facts → Version → List TagChange → TagDelta
tag_delta present from changes = record { from = from; to = present.tag_version; changes = listed changes }

abbrev pub tag_whole : Facts → TagWhole
tag_whole present = record { version = present.tag_version; rows = present.tag_rows }

abbrev pub tag_part_by : Facts → Version → Known TagChange → TagPart
tag_part_by present from Nothing = TagsUnchanged
tag_part_by present from (These changes) = TagsDelta (tag_delta present from changes)
tag_part_by present from Unknown = TagsWhole (tag_whole present)

-- as for the policies
abbrev pub tag_part : Facts → Book TagChange → Option Version → TagPart
tag_part present book None = TagsWhole (tag_whole present)
tag_part present book (Some from) = tag_part_by present from (changes_after book from.0)

-- ---- the roles

abbrev pub role_whole : Facts → RoleWhole
role_whole present = record { version = present.role_version; roles = present.roles }

-- Unchanged from the present version, else Whole
abbrev pub role_part : Facts → Option Version → RolePart
role_part present None = RolesWhole (role_whole present)
role_part present (Some from) = if from.0 == present.role_version.0 then RolesUnchanged else RolesWhole (role_whole present)

-- ---- the download

-- from which versions a plugin asks
pub record From : Type 0 where
  pub policies : Option Version
  pub tags : Option Version
  pub roles : Option Version

abbrev pub download_with : ℕ → From → Option Log → Option Facts → Option Download
download_with seq from (Some log) (Some present) = Some (record {
  seq = seq;
  policies = policy_part present (policy_book log) from.policies;
  tags = tag_part present (tag_book log) from.tags;
  roles = role_part present from.roles;
})
download_with seq from (Some log) None = None
download_with seq from None present = None

-- the download of the service, if there is one of this name; its seq is the count of the entries before it
abbrev pub download : Administration → List ℕ → From → Option Download
download a service from = download_with a.state.count from (log_at a.logs service) (view a service)
