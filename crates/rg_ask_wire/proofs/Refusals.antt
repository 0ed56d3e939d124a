-- An ask whose fields or whose command has a fault is answered by that fault, and one without by the ask.
use Rattle.std.proofs.Common.{◌≡◌, ℕ, List, Some, None, Result, Ok, Err, sym, ap, ap₂, ◌∙◌}
use Rattle.serde_json.specs.Data.{Data}
use Rattle.rg_cmd.specs.declared.ask.AdminCommand.{AdminCommand}
use Rattle.rg_cmd.specs.declared.ask.Ask.{Ask}
use Rattle.rg_json.specs.declared.fault.Fault.{Fault}
use Rattle.rg_json.specs.declared.fault.WireFault.{WireFault}
use Rattle.rg_json.specs.declared.fault.WireFault.TheVariants.{Bad, NoMemory}
use Rattle.rg_json.specs.Faults.{fault_of}
use Rattle.rg_json.specs.Fields.{text_at, within}
use Rattle.rg_json.specs.Reading.{Answers, Refuses}
use Rattle.rg_cmd_wire.specs.Reading.{reading_in}
use Rattle.rg_ask_wire.specs.Asks.{ask_name}
use Rattle.rg_ask_wire.specs.Reading.{IsBelowCommand, ask_in, ask_shape, ask_unless, with_command}
use Rattle.rg_ask_wire.specs.declared.key.AskKey.TheVariants as own

pub fields_refused : (e : WireFault) (d : Data) → Refuses e (fault_of ask_shape d) → Answers (Err e) (ask_in (Some d))
fields_refused (Bad path kind) d h = ap (λ fault. ask_unless fault d) h
fields_refused NoMemory d h = tt

-- what is read once the fields are right
command_next : (d : Data) → fault_of ask_shape d ≡ None → ask_in (Some d) ≡ with_command (text_at (ask_name own.Actor) d) (reading_in (Some (within (ask_name own.Command) d)))
command_next d right = ap (λ fault. ask_unless fault d) right

below : (actor : List ℕ) (e f : WireFault) (read : Result AdminCommand Fault) → IsBelowCommand e f → Answers (Err e) read → Answers (Err f) (with_command actor read)
below actor (Bad path kind) (Bad longer same) read is h =
    ap (with_command actor) h ∙ ap₂ (λ (p : List ℕ) k. Err (record { path = p; kind = k })) (sym is.0) (sym is.1)
below actor (Bad path kind) NoMemory read is h = tt
below actor NoMemory (Bad longer same) read is h = absurd is
below actor NoMemory NoMemory read is h = tt

moved : (f : WireFault) (a b : Result Ask Fault) → a ≡ b → Answers (Err f) b → Answers (Err f) a
moved (Bad path kind) a b same h = same ∙ h
moved NoMemory a b same h = tt

pub command_refused : (e f : WireFault) (d : Data) → fault_of ask_shape d ≡ None → IsBelowCommand e f → Answers (Err e) (reading_in (Some (within (ask_name own.Command) d))) → Answers (Err f) (ask_in (Some d))
command_refused e f d right is h = moved f _ _ (command_next d right) (below (text_at (ask_name own.Actor) d) e f _ is h)

pub ask_taken : (d : Data) (command : AdminCommand) → fault_of ask_shape d ≡ None → reading_in (Some (within (ask_name own.Command) d)) ≡ Ok command
    → ask_in (Some d) ≡ Ok (record { actor = text_at (ask_name own.Actor) d; command = command })
ask_taken d command right h = command_next d right ∙ ap (with_command (text_at (ask_name own.Actor) d)) h

pub ask_read : (d : Data) (actor : List ℕ) (command : AdminCommand) → fault_of ask_shape d ≡ None → actor ≡ text_at (ask_name own.Actor) d → reading_in (Some (within (ask_name own.Command) d)) ≡ Ok command
    → ask_in (Some d) ≡ Ok (record { actor = actor; command = command })
ask_read d actor command right is h = ask_taken d command right h ∙ ap (λ (a : List ℕ). Ok (record { actor = a; command = command })) (sym is)

pub ruleset refusals = (fields_refused, command_refused, ask_taken)
