-- The rules of users and time zones.
use Rattle.std.specs.Prelude.{◌&&◌, Bool, is_none}
use Rattle.std.specs.List.{list_all}
use Rattle.rg_base.specs.Texts.{is_name}
use Rattle.rg_cond.specs.Zones.{bad_rule}
use Rattle.rg_cmd.specs.declared.state.State.{State}
use Rattle.rg_cmd.specs.declared.state.UserRow.{UserRow}

-- U1: the name and each group have 1 to 256 characters
abbrev pub user_fits : UserRow → Bool
user_fits row = is_name row.name && list_all is_name row.groups.items

-- U2: the rule of each time zone row reads
abbrev pub time_zones_read : State → Bool
time_zones_read s = is_none (bad_rule s.time_zones.items)
