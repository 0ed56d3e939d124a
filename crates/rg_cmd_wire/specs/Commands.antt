-- The commands in JSON: the fields of each in the order of the format, and what they make.
use Rattle.std.specs.Prelude.{pos, List, [], ◌∷◌, option_and_then, unwrap_or}
use Rattle.serde_json.specs.Data.{Data}
use Rattle.serde_json.specs.Find.{as_number, as_u64}
use Rattle.rg_base.specs.declared.numbers.PolicyId.{PolicyId}
use Rattle.rg_base.specs.declared.numbers.Version.{Version}
use Rattle.rg_cmd.specs.declared.ask.AdminCommand.{AdminCommand}
use Rattle.rg_cmd.specs.declared.ask.AdminCommand.TheVariants as command
use Rattle.rg_json.specs.Kinds.{fields}
use Rattle.rg_json.specs.Shape.{Shape, text, integer, count, record_of}
use Rattle.rg_wire.specs.declared.key.Key.{Key}
use Rattle.rg_wire.specs.declared.key.Key.TheVariants as key
use Rattle.rg_wire.specs.Fields.{within, text_at, i64_at, optional_at}
use Rattle.rg_wire.specs.Own.{IsPolicy}
use Rattle.rg_wire.specs.Records.{policy_of, role_of, service_def_of, tag_row_of, zone_of}
use Rattle.rg_wire.specs.Shapes.{must, may, policy_shape, role_shape, service_shape, service_def_shape, tag_row_shape, user_shape, zone_shape}
use Rattle.rg_cmd_wire.specs.declared.command_name.CommandName.{CommandName}
use Rattle.rg_cmd_wire.specs.declared.command_name.CommandName.TheVariants as the
use Rattle.rg_cmd_wire.specs.Rows.{service_of, user_of}

-- the fields of a command but for `command`
unfoldable pub command_shape : CommandName → Shape
command_shape the.PutDef = record_of (fields (must key.Def service_def_shape ∷ []))
command_shape the.CreateService = record_of (fields (must key.Service service_shape ∷ []))
command_shape the.UpdateService = record_of (fields (must key.Service service_shape ∷ []))
command_shape the.DeleteService = record_of (fields (must key.Name text ∷ []))
command_shape the.CreatePolicy = record_of (fields (must key.Policy policy_shape ∷ []))
command_shape the.UpdatePolicy = record_of (fields (must key.Policy policy_shape ∷ []))
command_shape the.DeletePolicy = record_of (fields (must key.Id integer ∷ []))
command_shape the.GetPolicy = record_of (fields (must key.Id integer ∷ []))
command_shape the.ListPolicies = record_of (fields (must key.Service text ∷ []))
command_shape the.PutRole = record_of (fields (must key.Role role_shape ∷ []))
command_shape the.DeleteRole = record_of (fields (must key.Name text ∷ []))
command_shape the.PutZone = record_of (fields (must key.Zone zone_shape ∷ []))
command_shape the.DeleteZone = record_of (fields (must key.Name text ∷ []))
command_shape the.PutTags = record_of (fields (must key.Id integer ∷ must key.Row tag_row_shape ∷ []))
command_shape the.DeleteTags = record_of (fields (must key.Id integer ∷ []))
command_shape the.PutUser = record_of (fields (must key.User user_shape ∷ []))
command_shape the.DeleteUser = record_of (fields (must key.Name text ∷ []))
command_shape the.Download = record_of (fields (
    must key.Service text ∷
    may key.PoliciesFrom count ∷
    may key.TagsFrom count ∷
    may key.RolesFrom count ∷ []))

abbrev pub id_at : Key → Data → PolicyId
id_at key d = record { 0 = i64_at (pos 0) key d }

unfoldable pub version_of : Data → Version
version_of d = record { 0 = unwrap_or (option_and_then as_u64 (as_number d)) 0 }

-- the command of this name that the fields make
unfoldable pub command_of : CommandName → Data → AdminCommand
command_of the.PutDef d = command.PutDef (service_def_of (within key.Def d))
command_of the.CreateService d = command.CreateService (service_of (within key.Service d))
command_of the.UpdateService d = command.UpdateService (service_of (within key.Service d))
command_of the.DeleteService d = command.DeleteService (text_at key.Name d)
command_of the.CreatePolicy d = command.CreatePolicy (policy_of (within key.Policy d))
command_of the.UpdatePolicy d = command.UpdatePolicy (policy_of (within key.Policy d))
command_of the.DeletePolicy d = command.DeletePolicy (id_at key.Id d)
command_of the.GetPolicy d = command.GetPolicy (id_at key.Id d)
command_of the.ListPolicies d = command.ListPolicies (text_at key.Service d)
command_of the.PutRole d = command.PutRole (role_of (within key.Role d))
command_of the.DeleteRole d = command.DeleteRole (text_at key.Name d)
command_of the.PutZone d = command.PutZone (zone_of (within key.Zone d))
command_of the.DeleteZone d = command.DeleteZone (text_at key.Name d)
command_of the.PutTags d = command.PutTags (i64_at (pos 0) key.Id d) (tag_row_of (within key.Row d))
command_of the.DeleteTags d = command.DeleteTags (i64_at (pos 0) key.Id d)
command_of the.PutUser d = command.PutUser (user_of (within key.User d))
command_of the.DeleteUser d = command.DeleteUser (text_at key.Name d)
command_of the.Download d = command.Download (text_at key.Service d)
    (optional_at version_of key.PoliciesFrom d)
    (optional_at version_of key.TagsFrom d)
    (optional_at version_of key.RolesFrom d)

-- a policy that is read again from its own text is itself, inside a command too
abbrev pub OwnsPolicy : AdminCommand → Type 0
OwnsPolicy (command.CreatePolicy policy) = IsPolicy policy
OwnsPolicy (command.UpdatePolicy policy) = IsPolicy policy
OwnsPolicy _ = Unit {0}
