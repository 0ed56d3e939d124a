-- The names of the fields of rows, replies and downloads in JSON.
use Rattle.std.specs.Prelude.{ℕ, List, [], ◌∷◌, codes}
use Rattle.serde_json.specs.Data.{Data}
use Rattle.rg_json.specs.Printing as named
use Rattle.rg_wire.specs.Names as wire
use Rattle.rg_cmd_wire.specs.declared.reply_key.ReplyKey.{ReplyKey}
use Rattle.rg_cmd_wire.specs.declared.reply_key.ReplyKey.TheVariants as own

unfoldable pub name_of : ReplyKey → List ℕ
name_of (own.Wire key) = wire.name_of key
name_of own.Done = codes "done"
name_of own.Refused = codes "refused"
name_of own.Seq = codes "seq"
name_of own.Delta = codes "delta"
name_of own.Whole = codes "whole"
name_of own.From = codes "from"
name_of own.To = codes "to"
name_of own.Changes = codes "changes"
name_of own.ChangeType = codes "changeType"
name_of own.Tag = codes "tag"
name_of own.Rows = codes "rows"
name_of own.TagDef = codes "tagDef"

-- a map of these members, each put in turn
abbrev pub object_of : List (ReplyKey × Data) → Data
object_of ps = named.object_of name_of ps

-- a map of this one field
unfoldable pub only_data : ReplyKey → Data → Data
only_data key d = object_of ((key, d) ∷ [])
