-- For proofs alone: a state into which a configuration is being put, and what was put into it.
use Rattle.std.specs.Prelude.{◌≡◌, pos, Bool, true, false, List, [], ◌++◌, map, None}
use Rattle.rg_base.specs.Listed.{listed}
use Rattle.rg_base.specs.Places.{IsIndex}
use Rattle.rg_defs.specs.declared.service_def.ServiceDef.{ServiceDef}
use Rattle.rg_cmd.specs.declared.ask.AdminCommand.{AdminCommand}
use Rattle.rg_cmd.specs.declared.ask.AdminCommand.TheVariants.{CreateService, PutDef, PutUser}
use Rattle.rg_cmd.specs.declared.state.ServiceRow.{ServiceRow}
use Rattle.rg_cmd.specs.declared.state.State.{State}
use Rattle.rg_cmd.specs.declared.state.UserRow.{UserRow}
use Rattle.rg_validate.specs.Valid.{IsValid}
use Rattle.rg_admin_laws.specs.Logs.{version}
use Rattle.rg_cmd.specs.declared.config.Config.{Config}
use Rattle.rg_admin.specs.declared.putting.Putting.{Putting}
use Rattle.rg_admin.specs.Starting.{bare_state, put_all, put_fault, puts, started_state}

-- the commands by which a configuration is put
abbrev pub is_put : AdminCommand → Bool
is_put (PutDef def) = true
is_put (CreateService row) = true
is_put (PutUser row) = true
is_put command = false

-- valid, with nothing but definitions, services and users, and no place reserved
pub record IsStarting (s : State) : Type 0 where
  pub valid : IsValid s
  pub policies : s.policies ≡ listed []
  pub zones : s.zones ≡ listed []
  pub roles : s.roles ≡ listed []
  pub tag_rows : s.tag_rows ≡ listed []
  pub next_id : s.next_id ≡ pos 1
  pub count : s.count ≡ 0
  pub role_version : s.role_version ≡ version 1
  pub defs : s.defs.spare ≡ 0
  pub services : s.services.spare ≡ 0
  pub users : s.users.spare ≡ 0

-- the state is being put, and the places are those of the names in it
pub record IsPutting (p : Putting) : Type 0 where
  pub starting : IsStarting p.state
  pub defs : IsIndex p.defs (map (λ (def : ServiceDef). def.name) p.state.defs.items)
  pub services : IsIndex p.services (map (λ (row : ServiceRow). row.name) p.state.services.items)
  pub users : IsIndex p.users (map (λ (row : UserRow). row.name) p.state.users.items)

-- the commands put the one state into the other, and no rule fails
pub record IsPut (s : State) (commands : List AdminCommand) (later : State) : Type 0 where
  pub fault : put_fault s commands ≡ None
  pub led : later ≡ put_all s commands

-- the commands by which these rows are put
abbrev pub rows_put : List ServiceDef → List ServiceRow → List ServiceRow → List UserRow → List AdminCommand
rows_put defs tags others users = map PutDef defs ++ (map CreateService tags ++ (map CreateService others ++ map PutUser users))

-- the configuration is put whole: no rule fails, and with its time zones the state is that of the start
pub record IsPutWhole (config : Config) (s : State) : Type 0 where
  pub fault : put_fault (bare_state config) (puts config) ≡ None
  pub now : s ≡ started_state config
  pub before : State
  pub starting : IsStarting before
  pub zoned : s ≡ record before { time_zones = s.time_zones }
