-- The change that an accepted command makes. To be read first; then Touches, Logs, Views, Downloads, Steps, Starts, Leading, World and Machine. Sides serves proofs.
use Rattle.std.specs.Prelude.{ℤ, ◌+◌, pos, ◌+ℤ◌, ◌-◌, min, ◌^◌, [], ◌∷◌, ◌++◌, Option, Some, None}
use Rattle.std.specs.Int.{int_min}
use Rattle.rg_base.specs.Listed.{listed}
use Rattle.rg_base.specs.declared.numbers.Version.{Version}
use Rattle.rg_policy.specs.declared.policy.Policy.{Policy}
use Rattle.rg_tags.specs.declared.row.TagRow.{TagRow}
use Rattle.rg_cmd.specs.Lists.{put, without}
use Rattle.rg_cmd.specs.Lookups.{has_id, has_row_id, is_def, is_role, is_service, is_user, is_zone, policy_at}
use Rattle.rg_cmd.specs.declared.ask.AdminCommand.{AdminCommand}
use Rattle.rg_cmd.specs.declared.ask.AdminCommand.TheVariants.{PutDef, CreateService, UpdateService, DeleteService, CreatePolicy, UpdatePolicy, DeletePolicy, GetPolicy, ListPolicies, PutRole, DeleteRole, PutZone, DeleteZone, PutTags, DeleteTags, PutUser, DeleteUser, Download}
use Rattle.rg_cmd.specs.declared.state.State.{State}
use Rattle.rg_delta.specs.Logs.{raised}

-- ---- new forms

-- ids rise by one, and stand still at the last i64
abbrev pub next_id_after : ℤ → ℤ
next_id_after id = int_min (id +ℤ pos 1) (pos (2 ^ 63 - 1))

-- a created policy has the next id and version 1, whatever it came with
abbrev pub created_form : State → Policy → Policy
created_form s p = record p { id = record { 0 = s.next_id }; version = record { 0 = 1 } }

-- one more than the old version, which stands still at the last u64
abbrev pub version_after : Option Policy → Version
version_after None = record { 0 = 1 }
version_after (Some old) = record { 0 = min (old.version.0 + 1) (2 ^ 64 - 1) }

-- an updated policy has its old version plus 1
abbrev pub updated_form : State → Policy → Policy
updated_form s p = record p { version = version_after (policy_at s p.id.0) }

-- a tag row is stored with the command's id, whatever it came with
abbrev pub stored_row : ℤ → TagRow → TagRow
stored_row id row = record row { id = id }

-- a changed role raises the version of the roles
abbrev pub with_roles_changed : State → State
with_roles_changed s = record s { role_version = record { 0 = raised s.role_version.0 } }

-- ---- the change

-- the state after an accepted command, but for the count of entries
abbrev pub after_command : State → AdminCommand → State
after_command s (PutDef def) = record s { defs = listed (put (is_def def.name) def s.defs.items) }
after_command s (CreateService row) = record s { services = listed (s.services.items ++ row ∷ []) }
after_command s (UpdateService row) = record s { services = listed (put (is_service row.name) row s.services.items) }
after_command s (DeleteService name) = record s { services = listed (without (is_service name) s.services.items) }
after_command s (CreatePolicy p) = record s { policies = listed (s.policies.items ++ created_form s p ∷ []); next_id = next_id_after s.next_id }
after_command s (UpdatePolicy p) = record s { policies = listed (put (has_id p.id.0) (updated_form s p) s.policies.items) }
after_command s (DeletePolicy id) = record s { policies = listed (without (has_id id.0) s.policies.items) }
after_command s (GetPolicy id) = s
after_command s (ListPolicies service) = s
after_command s (PutRole row) = record (with_roles_changed s) { roles = listed (put (is_role row.name) row s.roles.items) }
after_command s (DeleteRole name) = record (with_roles_changed s) { roles = listed (without (is_role name) s.roles.items) }
after_command s (PutZone row) = record s { zones = listed (put (is_zone row.name) row s.zones.items) }
after_command s (DeleteZone name) = record s { zones = listed (without (is_zone name) s.zones.items) }
after_command s (PutTags id row) = record s { tag_rows = listed (put (has_row_id id) (stored_row id row) s.tag_rows.items) }
after_command s (DeleteTags id) = record s { tag_rows = listed (without (has_row_id id) s.tag_rows.items) }
after_command s (PutUser row) = record s { users = listed (put (is_user row.name) row s.users.items) }
after_command s (DeleteUser name) = record s { users = listed (without (is_user name) s.users.items) }
after_command s (Download service policies_from tags_from roles_from) = s
