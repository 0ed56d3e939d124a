-- An administration: its state and a log for each service; and its logs after an accepted command.
use Rattle.std.specs.Prelude.{ℕ, Bool, List, [], ◌∷◌, ◌++◌, map, Option}
use Rattle.std.specs.List.{find}
use Rattle.std.specs.Str.{bytes_eq}
use Rattle.rg_base.specs.Listed.{listed}
use Rattle.rg_base.specs.declared.numbers.Version.{Version}
use Rattle.rg_cmd.specs.Lists.{without}
use Rattle.rg_cmd.specs.declared.ask.AdminCommand.{AdminCommand}
use Rattle.rg_cmd.specs.declared.ask.AdminCommand.TheVariants.{CreateService, DeleteService}
use Rattle.rg_cmd.specs.declared.changes.Log.{Log}
use Rattle.rg_cmd.specs.declared.changes.LogEntry.{LogEntry}
use Rattle.rg_cmd.specs.declared.changes.TagChange.{TagChange}
use Rattle.rg_cmd.specs.declared.state.State.{State}
use Rattle.rg_delta.specs.Logs.{Book}
use Rattle.rg_delta.specs.Touches.{touched}
use Rattle.rg_admin_laws.specs.Touches.{policy_touch, tag_touch}

-- what is administered, with a log for each service in the order of the services
pub record Administration : Type 0 where
  pub state : State
  pub logs : List Log

abbrev pub version : ℕ → Version
version n = record { 0 = n }

abbrev pub is_log_of : List ℕ → Log → Bool
is_log_of service log = bytes_eq log.service service

abbrev pub log_at : List Log → List ℕ → Option Log
log_at logs service = find (is_log_of service) logs

-- the policy version of the service with its changes, and the tag version with its own
abbrev pub policy_book : Log → Book LogEntry
policy_book log = record { version = log.policy_version.0; changes = log.policy_changes.items }

abbrev pub tag_book : Log → Book TagChange
tag_book log = record { version = log.tag_version.0; changes = log.tag_changes.items }

-- the service's log with these books
abbrev pub written : Log → Book LogEntry → Book TagChange → Log
written log policies tags = record {
  service = log.service;
  policy_version = version policies.version;
  tag_version = version tags.version;
  policy_changes = listed policies.changes;
  tag_changes = listed tags.changes;
}

abbrev pub touched_log : State → AdminCommand → Log → Log
touched_log s command log = written log (touched (policy_touch s command log.service) (policy_book log)) (touched (tag_touch s command log.service) (tag_book log))

-- a created service stands at versions 1 and 1
abbrev pub new_log : List ℕ → Log
new_log service = record { service = service; policy_version = version 1; tag_version = version 1; policy_changes = listed []; tag_changes = listed [] }

-- the logs after an accepted command: a created service gets a log, a deleted one loses its own
abbrev pub logs_after : State → AdminCommand → List Log → List Log
logs_after s (CreateService row) logs = logs ++ new_log row.name ∷ []
logs_after s (DeleteService name) logs = without (is_log_of name) logs
logs_after s command logs = map (touched_log s command) logs
