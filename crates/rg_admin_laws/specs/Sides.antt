-- For proofs alone: what the versions of a service speak of, and how one noted change is followed there.
use Rattle.std.specs.Prelude.{◌≡◌, ℕ, List, [], fold, Option, if◌then◌else◌}
use Rattle.std.specs.List.{filter_map, list_any}
use Rattle.rg_base.specs.Listed.{Listed}
use Rattle.rg_policy.specs.declared.policy.Policy.{Policy}
use Rattle.rg_policy.specs.declared.policy.TimeZoneRow.{TimeZoneRow}
use Rattle.rg_defs.specs.declared.service_def.ServiceDef.{ServiceDef}
use Rattle.rg_roles.specs.declared.row.RoleRow.{RoleRow}
use Rattle.rg_tags.specs.declared.row.TagRow.{TagRow}
use Rattle.rg_zone_rules.specs.declared.row.ZoneRow.{ZoneRow}
use Rattle.rg_cmd.specs.Lookups.{def_of, service_at}
use Rattle.rg_cmd.specs.declared.changes.LogEntry.{LogEntry}
use Rattle.rg_cmd.specs.declared.changes.LogEntry.TheVariants.{Policy as OfPolicy, Zones}
use Rattle.rg_cmd.specs.declared.changes.TagChange.{TagChange}
use Rattle.rg_cmd.specs.declared.state.ServiceRow.{ServiceRow}
use Rattle.rg_cmd.specs.declared.state.State.{State}
use Rattle.rg_delta.specs.Applied.{policies_after, rows_after, tag_policies_after}
use Rattle.rg_delta.specs.Logs.{Book}
use Rattle.rg_admin_laws.specs.Downloads.{is_of_zones, policy_change}
use Rattle.rg_admin_laws.specs.Views.{policies_of, tag_def_of, tag_policies_of}

-- what the policy version of a service speaks of; the tag version speaks of its tag rows, and the role version of the roles
pub record PolicySide : Type 0 where
  pub row : Option ServiceRow
  pub def : Option ServiceDef
  pub tag_def : Option ServiceDef
  pub policies : List Policy
  pub tag_policies : List Policy
  pub zones : Listed ZoneRow
  pub time_zones : Listed TimeZoneRow

abbrev pub policy_side : State → List ℕ → PolicySide
policy_side s service = record {
  row = service_at s service;
  def = def_of s service;
  tag_def = tag_def_of s service;
  policies = policies_of s service;
  tag_policies = tag_policies_of s service;
  zones = s.zones;
  time_zones = s.time_zones;
}

-- what a noted change did
abbrev pub IsNoted : LogEntry → PolicySide → PolicySide → Type 0
IsNoted (OfPolicy change) x y = y ≡ record x { policies = policies_after x.policies change; tag_policies = tag_policies_after x.tag_policies change }
IsNoted Zones x y = y ≡ record x { zones = y.zones }

abbrev pub IsRowNoted : TagChange → List TagRow → List TagRow → Type 0
IsRowNoted change x y = y ≡ rows_after x change

-- the zones are those of the present where one of the changes is of them
abbrev pub side_after : PolicySide → List LogEntry → PolicySide → PolicySide
side_after present entries x = record x {
  policies = fold policies_after x.policies (filter_map policy_change entries);
  tag_policies = fold tag_policies_after x.tag_policies (filter_map policy_change entries);
  zones = if list_any is_of_zones entries then present.zones else x.zones;
}

-- a change of roles is never noted
abbrev pub IsRoleNoted : ⊥ → Listed RoleRow → Listed RoleRow → Type 0
IsRoleNoted change x y = ⊥

-- the roles' version, with no change kept
abbrev pub role_book : State → Book ⊥
role_book s = record { version = s.role_version.0; changes = [] }
