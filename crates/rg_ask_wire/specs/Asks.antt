-- What is printed for an ask: a map with the actor and the command. The command is a map with its name and its fields.
use Rattle.std.specs.Prelude.{ℕ, List, [], ◌∷◌, codes}
use Rattle.serde_json.specs.Data.{Data, string}
use Rattle.serde_json.specs.Written.{compact_text}
use Rattle.rg_base.specs.declared.numbers.Version.{Version}
use Rattle.rg_cmd.specs.declared.ask.AdminCommand.{AdminCommand}
use Rattle.rg_cmd.specs.declared.ask.AdminCommand.TheVariants.{PutDef, CreateService, UpdateService, DeleteService, CreatePolicy, UpdatePolicy, DeletePolicy, GetPolicy, ListPolicies, PutRole, DeleteRole, PutZone, DeleteZone, PutTags, DeleteTags, PutUser, DeleteUser, Download}
use Rattle.rg_cmd.specs.declared.ask.Ask.{Ask}
use Rattle.rg_cmd.specs.declared.state.ServiceRow.{ServiceRow}
use Rattle.rg_cmd.specs.declared.state.UserRow.{UserRow}
use Rattle.rg_json.specs.Printing.{text_data, bool_data, integer_data, count_data, list_data, option_data}
use Rattle.rg_json.specs.Printing as named
use Rattle.rg_wire.specs.declared.key.Key.{Key}
use Rattle.rg_wire.specs.declared.key.Key.TheVariants as key
use Rattle.rg_wire.specs.Printing.{object_of, policy_data}
use Rattle.rg_cmd_wire.specs.PrintedRows.{def_data, role_data, tag_row_data, zone_data}
use Rattle.rg_ask_wire.specs.declared.key.AskKey.{AskKey}
use Rattle.rg_ask_wire.specs.declared.key.AskKey.TheVariants as own

-- ---- services and users

abbrev pub service_members : ServiceRow → List (Key × Data)
service_members s =
    (key.Name, text_data s.name) ∷
    (key.Type, text_data s.def) ∷
    (key.TagService, text_data s.tag_service) ∷
    (key.Fallback, bool_data s.fallback) ∷ []

unfoldable pub service_data : ServiceRow → Data
service_data s = object_of (service_members s)

abbrev pub user_members : UserRow → List (Key × Data)
user_members u =
    (key.Name, text_data u.name) ∷
    (key.Groups, list_data text_data u.groups) ∷ []

unfoldable pub user_data : UserRow → Data
user_data u = object_of (user_members u)

-- ---- commands

-- what the command is called
unfoldable pub word_of_command : AdminCommand → List ℕ
word_of_command (PutDef def) = codes "putDef"
word_of_command (CreateService service) = codes "createService"
word_of_command (UpdateService service) = codes "updateService"
word_of_command (DeleteService name) = codes "deleteService"
word_of_command (CreatePolicy policy) = codes "createPolicy"
word_of_command (UpdatePolicy policy) = codes "updatePolicy"
word_of_command (DeletePolicy id) = codes "deletePolicy"
word_of_command (GetPolicy id) = codes "getPolicy"
word_of_command (ListPolicies service) = codes "listPolicies"
word_of_command (PutRole role) = codes "putRole"
word_of_command (DeleteRole name) = codes "deleteRole"
word_of_command (PutZone zone) = codes "putZone"
word_of_command (DeleteZone name) = codes "deleteZone"
word_of_command (PutTags id row) = codes "putTags"
word_of_command (DeleteTags id) = codes "deleteTags"
word_of_command (PutUser user) = codes "putUser"
word_of_command (DeleteUser name) = codes "deleteUser"
word_of_command (Download service policies_from tags_from roles_from) = codes "download"

abbrev pub version_data : Version → Data
version_data v = count_data v.0

-- its fields
unfoldable pub field_members : AdminCommand → List (Key × Data)
field_members (PutDef def) = (key.Def, def_data def) ∷ []
field_members (CreateService service) = (key.Service, service_data service) ∷ []
field_members (UpdateService service) = (key.Service, service_data service) ∷ []
field_members (DeleteService name) = (key.Name, text_data name) ∷ []
field_members (CreatePolicy policy) = (key.Policy, policy_data policy) ∷ []
field_members (UpdatePolicy policy) = (key.Policy, policy_data policy) ∷ []
field_members (DeletePolicy id) = (key.Id, integer_data id.0) ∷ []
field_members (GetPolicy id) = (key.Id, integer_data id.0) ∷ []
field_members (ListPolicies service) = (key.Service, text_data service) ∷ []
field_members (PutRole role) = (key.Role, role_data role) ∷ []
field_members (DeleteRole name) = (key.Name, text_data name) ∷ []
field_members (PutZone zone) = (key.Zone, zone_data zone) ∷ []
field_members (DeleteZone name) = (key.Name, text_data name) ∷ []
field_members (PutTags id row) = (key.Id, integer_data id) ∷ (key.Row, tag_row_data row) ∷ []
field_members (DeleteTags id) = (key.Id, integer_data id) ∷ []
field_members (PutUser user) = (key.User, user_data user) ∷ []
field_members (DeleteUser name) = (key.Name, text_data name) ∷ []
field_members (Download service policies_from tags_from roles_from) =
    (key.Service, text_data service) ∷
    (key.PoliciesFrom, option_data version_data policies_from) ∷
    (key.TagsFrom, option_data version_data tags_from) ∷
    (key.RolesFrom, option_data version_data roles_from) ∷ []

-- the bytes of its name
unfoldable pub word_data : AdminCommand → Data
word_data c = string (word_of_command c)

unfoldable pub command_data : AdminCommand → Data
command_data c = object_of ((key.Command, word_data c) ∷ field_members c)

-- ---- asks

unfoldable pub ask_name : AskKey → List ℕ
ask_name own.Actor = codes "actor"
ask_name own.Command = codes "command"

abbrev pub ask_members : Ask → List (AskKey × Data)
ask_members a =
    (own.Actor, text_data a.actor) ∷
    (own.Command, command_data a.command) ∷ []

unfoldable pub ask_data : Ask → Data
ask_data a = named.object_of ask_name (ask_members a)

-- the record of an ask
unfoldable pub ask_text : Ask → List ℕ
ask_text a = compact_text (ask_data a)
