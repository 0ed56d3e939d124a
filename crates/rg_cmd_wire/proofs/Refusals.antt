-- A command whose name or fields have a fault is answered by that fault, and one without by the command.
use Rattle.std.proofs.Common.{◌≡◌, ◌∙◌, Some, None, Ok, Err, ap, refl}
use Rattle.std.specs.Prelude.{codes}
use Rattle.std.specs.Str.{chars}
use Rattle.serde_json.specs.Data.{Data}
use Rattle.rg_json.specs.declared.fault.WireFault.{WireFault}
use Rattle.rg_json.specs.declared.fault.WireFault.TheVariants.{Bad, NoMemory}
use Rattle.rg_json.specs.Faults.{fault_of}
use Rattle.rg_json.specs.Reading.{Answers, Refuses, unless_fault}
use Rattle.rg_cmd_wire.specs.declared.command_name.CommandName.{CommandName}
use Rattle.rg_cmd_wire.specs.declared.command_name.CommandName.TheVariants as the
use Rattle.rg_cmd_wire.specs.Commands.{command_of, command_shape}
use Rattle.rg_cmd_wire.specs.Naming.{named}
use Rattle.rg_cmd_wire.specs.Reading.{after_word, reading_in, reading_named, unnamed, word_at, word_shape}

-- the path of an unknown command has the characters that it is written with
pub path_chars : chars (codes "/command") ≡ codes "/command"
unfolding chars
path_chars = refl

-- what is read once `command` is right
named_next : (d : Data) → fault_of word_shape d ≡ None → reading_in (Some d) ≡ reading_named (Some d) (named (word_at d))
named_next d right = ap (λ fault. after_word (Some d) (unless_fault (word_at d) fault)) right

pub word_refused : (e : WireFault) (d : Data) → Refuses e (fault_of word_shape d) → Answers (Err e) (reading_in (Some d))
word_refused (Bad path kind) d h = ap (λ fault. after_word (Some d) (unless_fault (word_at d) fault)) h
word_refused NoMemory d h = tt

pub unnamed_refused : (e : WireFault) (d : Data) → fault_of word_shape d ≡ None → named (word_at d) ≡ None → Refuses e (Some unnamed) → Answers (Err e) (reading_in (Some d))
unnamed_refused (Bad path kind) d right none h = named_next d right ∙ ap (reading_named (Some d)) none ∙ ap (unless_fault (command_of the.Download d)) h
unnamed_refused NoMemory d right none h = tt

pub fields_refused : (e : WireFault) (d : Data) (name : CommandName) → fault_of word_shape d ≡ None → named (word_at d) ≡ Some name → Refuses e (fault_of (command_shape name) d) → Answers (Err e) (reading_in (Some d))
fields_refused (Bad path kind) d name right called h = named_next d right ∙ ap (reading_named (Some d)) called ∙ ap (unless_fault (command_of name d)) h
fields_refused NoMemory d name right called h = tt

pub command_read : (d : Data) (name : CommandName) → fault_of word_shape d ≡ None → named (word_at d) ≡ Some name → fault_of (command_shape name) d ≡ None → reading_in (Some d) ≡ Ok (command_of name d)
command_read d name right called none = named_next d right ∙ ap (reading_named (Some d)) called ∙ ap (unless_fault (command_of name d)) none

pub ruleset spellings = (path_chars)

pub ruleset refusals = (word_refused, unnamed_refused, fields_refused, command_read)
