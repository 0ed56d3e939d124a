-- What a configuration starts, and the first rule that it breaks.
use Rattle.std.specs.Prelude.{◌≡◌, pos, not, List, [], ◌∷◌, ◌++◌, map, filter, Option, Some, None}
use Rattle.std.specs.Option.{option_or}
use Rattle.std.specs.Str.{bytes_eq}
use Rattle.rg_base.specs.Listed.{listed}
use Rattle.rg_defs.specs.Rules.{tag_name}
use Rattle.rg_cmd.specs.declared.ask.AdminCommand.{AdminCommand}
use Rattle.rg_cmd.specs.declared.ask.AdminCommand.TheVariants.{CreateService, PutDef, PutUser}
use Rattle.rg_cmd.specs.declared.config.Config.{Config}
use Rattle.rg_cmd.specs.declared.rule.Rule.{Rule}
use Rattle.rg_cmd.specs.declared.rule.Rule.TheVariants.{C6, U2}
use Rattle.rg_cmd.specs.declared.state.ServiceRow.{ServiceRow}
use Rattle.rg_cmd.specs.declared.state.State.{State}
use Rattle.rg_validate.specs.Definitions.{definition_rules, plugin_fits}
use Rattle.rg_validate.specs.Failing.{Tested, first_failing}
use Rattle.rg_validate.specs.Rules.{command_rules, service_exists}
use Rattle.rg_validate.specs.Users.{time_zones_read}
use Rattle.rg_admin_laws.specs.Changes.{after_command}
use Rattle.rg_admin_laws.specs.Logs.{Administration, version}
use Rattle.rg_admin_laws.specs.Starts.{new_logs}
use Rattle.rg_admin.specs.declared.start.StartFault.{StartFault}
use Rattle.rg_admin.specs.declared.start.StartFault.TheVariants.{Rule as Breaks, NoMemory}

-- nothing of the configuration is put yet but for its administrators and the plugin's name
abbrev pub bare_state : Config → State
bare_state c = record {
  admins = c.admins;
  users = listed [];
  time_zones = listed [];
  defs = listed [];
  services = listed [];
  policies = listed [];
  zones = listed [];
  roles = listed [];
  tag_rows = listed [];
  plugin = c.plugin;
  next_id = pos 1;
  count = 0;
  role_version = version 1;
}

-- the services of definition `tag` are put first
abbrev pub tag_services_first : List ServiceRow → List ServiceRow
tag_services_first rows = filter (λ (row : ServiceRow). bytes_eq row.def tag_name) rows ++ filter (λ (row : ServiceRow). not (bytes_eq row.def tag_name)) rows

-- what is put, in order: definitions, services, users
abbrev pub puts : Config → List AdminCommand
puts c = map PutDef c.defs.items ++ (map CreateService (tag_services_first c.services.items) ++ map PutUser c.users.items)

-- the rules that are asked of it: those of its command, but for C1
abbrev pub start_rules : State → AdminCommand → List Tested
start_rules s (PutDef def) = definition_rules def
start_rules s command = command_rules s command

-- the first that fails as they are put one after the other
abbrev pub put_fault : State → List AdminCommand → Option Rule
put_fault s [] = None
put_fault s (command ∷ more) = option_or (first_failing (start_rules s command)) (put_fault (after_command s command) more)

abbrev pub put_all : State → List AdminCommand → State
put_all s [] = s
put_all s (command ∷ more) = put_all (after_command s command) more

-- the time zones are kept whole
unfoldable pub started_state : Config → State
started_state c = record (put_all (bare_state c) (puts c)) { time_zones = c.time_zones }

-- U2 of the time zones; last, the plugin must be one of the services, and pass C6
unfoldable pub last_rules : State → List Tested
last_rules s = (U2, time_zones_read s) ∷ service_exists s s.plugin ∷ (C6, plugin_fits s) ∷ []

-- the first rule that the configuration breaks
unfoldable pub start_fault : Config → Option Rule
start_fault c = option_or (put_fault (bare_state c) (puts c)) (first_failing (last_rules (started_state c)))

-- the administration that it starts: each service stands at versions 1 and 1
unfoldable pub started : Config → Administration
started c = record { state = started_state c; logs = new_logs (started_state c).services.items }

-- what a configuration starts; None where it breaks a rule
abbrev pub started_unless : Option Rule → Config → Option Administration
started_unless None config = Some (started config)
started_unless (Some rule) config = None

-- a rule that is named is the first that the configuration breaks; memory may be refused whatever it breaks
abbrev pub IsCause : StartFault → Option Rule → Type 0
IsCause (Breaks rule) fault = fault ≡ Some rule
IsCause NoMemory fault = Unit {0}
