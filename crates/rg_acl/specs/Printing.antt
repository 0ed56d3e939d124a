-- What is printed for a row. Members stand in byte order of their keys, since `put` keeps that order.
use Rattle.std.specs.Prelude.{ℕ, List, [], ◌∷◌, codes}
use Rattle.serde_json.specs.Data.{Data, string}
use Rattle.serde_json.specs.Written.{compact_text}
use Rattle.rg_json.specs.Printing.{integer_data, object_of, text_data}
use Rattle.rg_wire.specs.Printing.{access_data}
use Rattle.rg_acl.specs.declared.print.RowKey.{RowKey}
use Rattle.rg_acl.specs.declared.print.RowKey.TheVariants as key
use Rattle.rg_acl.specs.declared.row.ReportRow.{ReportRow}
use Rattle.rg_acl.specs.declared.row.SubjectKind.{SubjectKind}
use Rattle.rg_acl.specs.declared.row.SubjectKind.TheVariants.{User, Group, Role, Other}

unfoldable pub name_of : RowKey → List ℕ
name_of key.Access = codes "access"
name_of key.AccessType = codes "accessType"
name_of key.Kind = codes "kind"
name_of key.Name = codes "name"
name_of key.PolicyId = codes "policyId"

unfoldable pub kind_word : SubjectKind → List ℕ
kind_word User = codes "user"
kind_word Group = codes "group"
kind_word Role = codes "role"
kind_word Other = codes "other"

abbrev pub kind_data : SubjectKind → Data
kind_data kind = string (kind_word kind)

abbrev pub row_members : ReportRow → List (RowKey × Data)
row_members r =
    (key.Access, access_data r.verdict.access) ∷
    (key.AccessType, text_data r.access) ∷
    (key.Kind, kind_data r.kind) ∷
    (key.Name, text_data r.name) ∷
    (key.PolicyId, integer_data r.verdict.policy.0) ∷ []

unfoldable pub row_data : ReportRow → Data
row_data r = object_of name_of (row_members r)

-- the line of a row, without its LF
unfoldable pub row_text : ReportRow → List ℕ
row_text r = compact_text (row_data r)
