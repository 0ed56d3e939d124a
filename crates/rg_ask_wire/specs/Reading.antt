-- The reading of an ask: the ask, or the first fault.
use Rattle.std.specs.Prelude.{◌≡◌, ℕ, List, [], ◌∷◌, ◌++◌, codes, Option, Some, None, Result, Ok, Err}
use Rattle.serde_json.specs.Data.{Data}
use Rattle.rg_cmd.specs.declared.ask.AdminCommand.{AdminCommand}
use Rattle.rg_cmd.specs.declared.ask.Ask.{Ask}
use Rattle.rg_json.specs.declared.fault.Fault.{Fault}
use Rattle.rg_json.specs.declared.fault.WireFault.{WireFault}
use Rattle.rg_json.specs.declared.fault.WireFault.TheVariants.{Bad, NoMemory}
use Rattle.rg_json.specs.declared.fault.WireKind.TheVariants.{Syntax}
use Rattle.rg_json.specs.declared.shape.Need.TheVariants.{Must}
use Rattle.rg_json.specs.Faults.{fault_of}
use Rattle.rg_json.specs.Fields.{text_at, within}
use Rattle.rg_json.specs.Kinds.{fields}
use Rattle.rg_json.specs.Shape.{Shape, text, anything, record_of}
use Rattle.rg_json.specs.Texts.{data_of}
use Rattle.rg_cmd_wire.specs.Reading.{reading_in}
use Rattle.rg_ask_wire.specs.Asks.{ask_name}
use Rattle.rg_ask_wire.specs.declared.key.AskKey.TheVariants as own

-- a map with an actor and a command; what the command is comes after
abbrev pub ask_shape : Shape
ask_shape = record_of (fields (
    (ask_name own.Actor, Must, text) ∷
    (ask_name own.Command, Must, anything) ∷ []))

-- a fault of the command stands below its name
abbrev pub with_command : List ℕ → Result AdminCommand Fault → Result Ask Fault
with_command actor (Ok command) = Ok (record { actor = actor; command = command })
with_command actor (Err fault) = Err (record { path = codes "/command" ++ fault.path; kind = fault.kind })

abbrev pub ask_unless : Option Fault → Data → Result Ask Fault
ask_unless None d = with_command (text_at (ask_name own.Actor) d) (reading_in (Some (within (ask_name own.Command) d)))
ask_unless (Some fault) d = Err fault

abbrev pub ask_in : Option Data → Result Ask Fault
ask_in None = Err (record { path = []; kind = Syntax })
ask_in (Some d) = ask_unless (fault_of ask_shape d) d

-- the ask of a text, or else the text's first fault
unfoldable pub ask_reading : List ℕ → Result Ask Fault
ask_reading bytes = ask_in (data_of bytes)

-- For proofs alone: the fault of an ask whose command has a fault.
abbrev pub IsBelowCommand : WireFault → WireFault → Type 0
IsBelowCommand (Bad path kind) (Bad longer same) = (longer ≡ codes "/command" ++ path) × (same ≡ kind)
IsBelowCommand NoMemory (Bad path kind) = ⊥
IsBelowCommand fault NoMemory = Unit {0}
