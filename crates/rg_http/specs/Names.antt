-- The fields and the methods that framing looks at.
use Rattle.std.specs.Prelude.{ℕ, List, codes}
use Rattle.rg_http.specs.declared.fields.FieldName.{FieldName}
use Rattle.rg_http.specs.declared.fields.FieldName.TheVariants.{ContentLength, TransferEncoding, ContentEncoding, Connection, User}

-- the name of a field in lower case
unfoldable pub name_of : FieldName → List ℕ
name_of ContentLength = codes "content-length"
name_of TransferEncoding = codes "transfer-encoding"
name_of ContentEncoding = codes "content-encoding"
name_of Connection = codes "connection"
name_of User = codes "x-user"
