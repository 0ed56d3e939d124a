-- The JSON of a row: its fields in the order of the format, and the row that they make.
use Rattle.std.specs.Prelude.{false, [], ◌∷◌}
use Rattle.serde_json.specs.Data.{Data}
use Rattle.rg_json.specs.Fields.{text_of}
use Rattle.rg_json.specs.Kinds.{fields}
use Rattle.rg_json.specs.Shape.{Shape, text, truth, list_of, map_of, record_of}
use Rattle.rg_json.specs.declared.shape.Keys.TheVariants.{Any}
use Rattle.rg_wire.specs.declared.key.Key.TheVariants as key
use Rattle.rg_wire.specs.Fields.{text_at, bool_at, list_at, map_at}
use Rattle.rg_wire.specs.Records.{policy_resource_of}
use Rattle.rg_wire.specs.Shapes.{must, may, policy_resource_shape}
use Rattle.rg_grant.specs.declared.row.GrantRow.{GrantRow}

abbrev pub grant_shape : Shape
grant_shape = record_of (fields (
    must key.Service text ∷
    may key.ZoneName text ∷
    may key.Resources (map_of Any policy_resource_shape) ∷
    may key.Users (list_of text) ∷
    may key.Groups (list_of text) ∷
    may key.Roles (list_of text) ∷
    may key.AccessTypes (list_of text) ∷
    may key.DelegateAdmin truth ∷ []))

unfoldable pub row_of : Data → GrantRow
row_of d = record {
  service = text_at key.Service d;
  zone = text_at key.ZoneName d;
  resources = map_at policy_resource_of key.Resources d;
  users = list_at text_of key.Users d;
  groups = list_at text_of key.Groups d;
  roles = list_at text_of key.Roles d;
  accesses = list_at text_of key.AccessTypes d;
  delegate = bool_at false key.DelegateAdmin d;
}
