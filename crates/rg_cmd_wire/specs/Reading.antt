-- The reading of a command: the command, or the first fault.
use Rattle.std.specs.Prelude.{ℕ, List, [], ◌∷◌, codes, Option, Some, None, option_and_then, unwrap_or, Result, Ok, Err}
use Rattle.serde_json.specs.Data.{Data}
use Rattle.serde_json.specs.Find.{as_str}
use Rattle.rg_cmd.specs.declared.ask.AdminCommand.{AdminCommand}
use Rattle.rg_json.specs.declared.fault.Fault.{Fault}
use Rattle.rg_json.specs.declared.fault.WireKind.TheVariants.{Mistyped}
use Rattle.rg_json.specs.Fields.{field}
use Rattle.rg_json.specs.Kinds.{fields}
use Rattle.rg_json.specs.Reading.{reading_of}
use Rattle.rg_json.specs.Shape.{Shape, text, record_of}
use Rattle.rg_json.specs.Texts.{data_of}
use Rattle.rg_wire.specs.declared.key.Key.TheVariants as key
use Rattle.rg_wire.specs.Names.{name_of}
use Rattle.rg_wire.specs.Shapes.{must}
use Rattle.rg_cmd_wire.specs.declared.command_name.CommandName.{CommandName}
use Rattle.rg_cmd_wire.specs.Commands.{command_of, command_shape}
use Rattle.rg_cmd_wire.specs.Naming.{named}

-- a map that says which command it is
abbrev pub word_shape : Shape
word_shape = record_of (fields (must key.Command text ∷ []))

-- the bytes of the command's name
unfoldable pub word_at : Data → List ℕ
word_at d = unwrap_or (option_and_then as_str (field (name_of key.Command) d)) []

-- the fault where no command is called so
abbrev pub unnamed : Fault
unnamed = record { path = codes "/command"; kind = Mistyped }

-- the command of this name
abbrev pub reading_named : Option Data → Option CommandName → Result AdminCommand Fault
reading_named json None = Err unnamed
reading_named json (Some name) = reading_of (command_shape name) (command_of name) json

abbrev pub after_word : Option Data → Result (List ℕ) Fault → Result AdminCommand Fault
after_word json (Ok word) = reading_named json (named word)
after_word json (Err fault) = Err fault

-- `command` is read before the other fields
abbrev pub reading_in : Option Data → Result AdminCommand Fault
reading_in json = after_word json (reading_of word_shape word_at json)

-- the command of a text, or else the text's first fault
abbrev pub command_reading : List ℕ → Result AdminCommand Fault
command_reading bytes = reading_in (data_of bytes)
