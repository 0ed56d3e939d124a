-- For proofs alone: what is looked up once of a command, and not for each log.
use Rattle.std.specs.Prelude.{ℕ, ◌&&◌, not, Bool, false, List, Option, Some, None}
use Rattle.std.specs.Str.{bytes_eq}
use Rattle.rg_base.specs.Texts.{is_empty}
use Rattle.rg_defs.specs.Rules.{tag_name}
use Rattle.rg_policy.specs.declared.policy.Policy.{Policy}
use Rattle.rg_tags.specs.declared.row.TagRow.{TagRow}
use Rattle.rg_cmd.specs.Lookups.{policy_at, tag_row_at}
use Rattle.rg_cmd.specs.declared.ask.AdminCommand.{AdminCommand}
use Rattle.rg_cmd.specs.declared.ask.AdminCommand.TheVariants.{CreatePolicy, DeletePolicy, DeleteTags, UpdatePolicy}
use Rattle.rg_cmd.specs.declared.changes.LogEntry.{LogEntry}
use Rattle.rg_cmd.specs.declared.state.ServiceRow.{ServiceRow}
use Rattle.rg_cmd.specs.declared.state.State.{State}
use Rattle.rg_delta.specs.declared.touch.Touch.{Touch}
use Rattle.rg_delta.specs.declared.touch.Touch.TheVariants.{Leaves}
use Rattle.rg_admin_laws.specs.Changes.{created_form, updated_form}
use Rattle.rg_admin_laws.specs.Touches.{touch_of}

-- the policy that the command updates or deletes
abbrev pub policy_named : State → AdminCommand → Option Policy
policy_named s (UpdatePolicy p) = policy_at s p.id.0
policy_named s (DeletePolicy id) = policy_at s id.0
policy_named s command = None

-- the policy that logs note of the command: as it is stored, or as it was before it is deleted
abbrev pub noted_policy : State → AdminCommand → Option Policy
noted_policy s (CreatePolicy p) = Some (created_form s p)
noted_policy s (UpdatePolicy p) = Some (updated_form s p)
noted_policy s (DeletePolicy id) = policy_at s id.0
noted_policy s command = None

-- what a change of the policy, if there is one, does to a service's log
abbrev pub touch_of_noted : ℕ → Option Policy → List ℕ → Option (List ℕ) → Touch LogEntry
touch_of_noted change_type None service tag_service = Leaves
touch_of_noted change_type (Some p) service tag_service = touch_of change_type p service tag_service

-- the tag row that the command deletes
abbrev pub tag_row_named : State → AdminCommand → Option TagRow
tag_row_named s (DeleteTags id) = tag_row_at s id
tag_row_named s command = None

-- there is a service with a tag service, and the definition is the one that tag services have
abbrev pub tag_def_named : List ℕ → Option ServiceRow → Bool
tag_def_named def None = false
tag_def_named def (Some row) = not (is_empty row.tag_service) && bytes_eq tag_name def
