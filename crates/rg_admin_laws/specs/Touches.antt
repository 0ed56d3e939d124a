-- Which logs an accepted command touches, and what they note.
use Rattle.std.specs.Prelude.{ℕ, ℤ, ◌||◌, Bool, true, false, List, Option, Some, None, option_and_then, if◌then◌else◌}
use Rattle.std.specs.List.{list_any}
use Rattle.std.specs.Str.{bytes_eq}
use Rattle.rg_policy.specs.declared.policy.Policy.{Policy}
use Rattle.rg_tags.specs.declared.row.TagRow.{TagRow}
use Rattle.rg_cmd.specs.Kinds.{created, deleted, updated}
use Rattle.rg_cmd.specs.Lookups.{has_def, has_row_id, has_tag_service, is_of, is_of_tag, is_row_of, policy_at, service_at, tag_row_at, tag_service_of}
use Rattle.rg_cmd.specs.declared.ask.AdminCommand.{AdminCommand}
use Rattle.rg_cmd.specs.declared.ask.AdminCommand.TheVariants.{PutDef, CreateService, UpdateService, DeleteService, CreatePolicy, UpdatePolicy, DeletePolicy, GetPolicy, ListPolicies, PutRole, DeleteRole, PutZone, DeleteZone, PutTags, DeleteTags, PutUser, DeleteUser, Download}
use Rattle.rg_cmd.specs.declared.changes.LogEntry.{LogEntry}
use Rattle.rg_cmd.specs.declared.changes.LogEntry.TheVariants.{Policy as OfPolicy, Zones}
use Rattle.rg_cmd.specs.declared.changes.TagChange.{TagChange}
use Rattle.rg_cmd.specs.declared.state.State.{State}
use Rattle.rg_delta.specs.declared.touch.Touch.{Touch}
use Rattle.rg_delta.specs.declared.touch.Touch.TheVariants.{Leaves, Notes, Restarts}
use Rattle.rg_admin_laws.specs.Changes.{created_form, stored_row, updated_form}

-- ---- policies

-- a policy touches its service, and, as a tag policy, each service that has this one as its tag service
abbrev pub touch_of : ℕ → Policy → List ℕ → Option (List ℕ) → Touch LogEntry
touch_of change_type p service tag_service =
    if is_of service p then Notes (OfPolicy (record { change_type = change_type; tag = false; policy = p }))
    else (if is_of_tag tag_service p then Notes (OfPolicy (record { change_type = change_type; tag = true; policy = p })) else Leaves)

-- a deleted policy is noted as it was
abbrev pub touch_of_old : Option Policy → List ℕ → Option (List ℕ) → Touch LogEntry
touch_of_old None service tag_service = Leaves
touch_of_old (Some p) service tag_service = touch_of deleted p service tag_service

abbrev pub restarts_if : {C : Type 0} → Bool → Touch C
restarts_if b = if b then Restarts else Leaves

-- what an accepted command does to the policy log of a service: a policy is noted by its service and those whose tag service
-- that is, a zone by every service; a changed definition empties the logs of its services and of those whose tag service has
-- it, an updated service its own log and those of the services whose tag service it is
abbrev pub policy_touch : State → AdminCommand → List ℕ → Touch LogEntry
policy_touch s (PutDef def) service = restarts_if (has_def def.name (service_at s service) || has_def def.name (option_and_then (service_at s) (tag_service_of s service)))
policy_touch s (CreateService row) service = Leaves
policy_touch s (UpdateService row) service = restarts_if (bytes_eq row.name service || has_tag_service row.name (tag_service_of s service))
policy_touch s (DeleteService name) service = Leaves
policy_touch s (CreatePolicy p) service = touch_of created (created_form s p) service (tag_service_of s service)
policy_touch s (UpdatePolicy p) service = touch_of updated (updated_form s p) service (tag_service_of s service)
policy_touch s (DeletePolicy id) service = touch_of_old (policy_at s id.0) service (tag_service_of s service)
policy_touch s (GetPolicy id) service = Leaves
policy_touch s (ListPolicies listed) service = Leaves
policy_touch s (PutRole row) service = Leaves
policy_touch s (DeleteRole name) service = Leaves
policy_touch s (PutZone row) service = Notes Zones
policy_touch s (DeleteZone name) service = Notes Zones
policy_touch s (PutTags id row) service = Leaves
policy_touch s (DeleteTags id) service = Leaves
policy_touch s (PutUser row) service = Leaves
policy_touch s (DeleteUser name) service = Leaves
policy_touch s (Download name policies_from tags_from roles_from) service = Leaves

-- ---- tag rows

-- a tag row touches its service
abbrev pub row_touch_of : ℕ → TagRow → List ℕ → Touch TagChange
row_touch_of change_type row service = if is_row_of service row then Notes (record { change_type = change_type; row = row }) else Leaves

-- a deleted row is noted as it was
abbrev pub row_touch_of_old : Option TagRow → List ℕ → Touch TagChange
row_touch_of_old None service = Leaves
row_touch_of_old (Some row) service = row_touch_of deleted row service

-- a row with a new id is created, any other updated
abbrev pub put_type : State → ℤ → ℕ
put_type s id = if list_any (has_row_id id) s.tag_rows.items then updated else created

-- what an accepted command does to the tag log of a service
abbrev pub tag_touch : State → AdminCommand → List ℕ → Touch TagChange
tag_touch s (PutTags id row) service = row_touch_of (put_type s id) (stored_row id row) service
tag_touch s (DeleteTags id) service = row_touch_of_old (tag_row_at s id) service
tag_touch s command service = Leaves
