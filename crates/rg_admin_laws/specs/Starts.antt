-- Where the history of an administration begins.
use Rattle.std.specs.Prelude.{◌≡◌, pos, List, [], map}
use Rattle.rg_base.specs.Listed.{listed}
use Rattle.rg_cmd.specs.declared.changes.Log.{Log}
use Rattle.rg_cmd.specs.declared.state.ServiceRow.{ServiceRow}
use Rattle.rg_validate.specs.Valid.{IsKept}
use Rattle.rg_admin_laws.specs.Logs.{Administration, new_log, version}

-- a log for each of the services, at versions 1 and 1
abbrev pub new_logs : List ServiceRow → List Log
new_logs services = map (λ (row : ServiceRow). new_log row.name) services

-- nothing was administered yet: there are a configuration's administrators, users, time zones, definitions and services, which
-- pass the rules, and nothing else
pub record IsStart (a : Administration) : Type 0 where
  pub valid : IsKept a.state
  pub policies : a.state.policies ≡ listed []
  pub zones : a.state.zones ≡ listed []
  pub roles : a.state.roles ≡ listed []
  pub tag_rows : a.state.tag_rows ≡ listed []
  pub next_id : a.state.next_id ≡ pos 1
  pub count : a.state.count ≡ 0
  pub role_version : a.state.role_version ≡ version 1
  pub logs : a.logs ≡ new_logs a.state.services.items
