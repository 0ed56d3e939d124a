-- The services, users and configurations that JSON stands for, field by field.
use Rattle.std.specs.Prelude.{false}
use Rattle.serde_json.specs.Data.{Data}
use Rattle.rg_cmd.specs.declared.config.Config.{Config}
use Rattle.rg_cmd.specs.declared.state.ServiceRow.{ServiceRow}
use Rattle.rg_cmd.specs.declared.state.UserRow.{UserRow}
use Rattle.rg_json.specs.Fields.{text_of}
use Rattle.rg_wire.specs.declared.key.Key.TheVariants as key
use Rattle.rg_wire.specs.Fields.{text_at, bool_at, list_at}
use Rattle.rg_wire.specs.Records.{service_def_of, time_zone_of}

unfoldable pub service_of : Data → ServiceRow
service_of d = record {
  name = text_at key.Name d;
  def = text_at key.Type d;
  tag_service = text_at key.TagService d;
  fallback = bool_at false key.Fallback d;
}

unfoldable pub user_of : Data → UserRow
user_of d = record { name = text_at key.Name d; groups = list_at text_of key.Groups d }

unfoldable pub config_of : Data → Config
config_of d = record {
  admins = list_at text_of key.Admins d;
  users = list_at user_of key.Users d;
  time_zones = list_at time_zone_of key.TimeZones d;
  defs = list_at service_def_of key.ServiceDefs d;
  services = list_at service_of key.Services d;
  plugin = text_at key.Plugin d;
}
