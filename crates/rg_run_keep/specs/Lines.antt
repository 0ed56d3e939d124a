-- What a line of a script of a kept administration asks.
use Rattle.std.specs.Prelude.{◌≡◌, ℕ, List, codes, Bool, true, false, Option, Some, None, option_map, option_and_then, Result, Ok, Err, if◌then◌else◌}
use Rattle.std.specs.Result.{result_ok}
use Rattle.std.specs.Str.{bytes_eq}
use Rattle.rg_base.specs.declared.numbers.Moment.{Moment}
use Rattle.rg_ask_wire.specs.KeyOrder.{IsInKeyOrder}
use Rattle.rg_cmd_wire.specs.Reading.{command_reading}
use Rattle.rg_script.specs.declared.line.Line.{Line}
use Rattle.rg_script.specs.declared.line.Line.TheVariants as plain
use Rattle.rg_script.specs.declared.line.LineFault.{LineFault}
use Rattle.rg_script.specs.declared.line.LineFault.TheVariants.{Bad, NoMemory}
use Rattle.rg_script.specs.Line.{actor_of, line_of}
use Rattle.rg_script.specs.Words.{behind_space, front_word}
use Rattle.rg_run_keep.specs.declared.line.KeepLine.{KeepLine}
use Rattle.rg_run_keep.specs.declared.line.KeepLine.TheVariants as line

-- what the actor asks in JSON
abbrev pub ask_read : Option (List ℕ) → Option (List ℕ) → Option KeepLine
ask_read (Some actor) (Some json) = option_map (λ command. line.Ask (record { actor = actor; command = command })) (result_ok (command_reading json))
ask_read _ _ = None

-- behind the word come the actor, one space and the command
abbrev pub admin_line : Option (List ℕ) → Option KeepLine
admin_line (Some rest) = ask_read (actor_of (front_word rest)) (behind_space rest)
admin_line None = None

-- a line of another script that asks nothing of an administration, but for facts and refreshes
abbrev pub plain_line : Line → Option KeepLine
plain_line plain.Blank = Some line.Blank
plain_line (plain.Config config) = Some (line.Config config)
plain_line (plain.Decide q) = Some (line.Decide q)
plain_line _ = None

abbrev pub worded : Bool → List ℕ → Moment → Option KeepLine
worded true bytes now = admin_line (behind_space bytes)
worded false bytes now = option_and_then plain_line (line_of bytes now)

-- what a line asks; None for one that isn't read
abbrev pub keep_line_of : List ℕ → Moment → Option KeepLine
keep_line_of bytes now = if bytes_eq bytes (codes "reopen") then Some line.Reopen else worded (bytes_eq (front_word bytes) (codes "admin")) bytes now

-- the answer is the reading, unless memory was refused
abbrev pub Reads : Result KeepLine LineFault → Option KeepLine → Type 0
Reads (Ok read) wanted = wanted ≡ Some read
Reads (Err Bad) wanted = wanted ≡ None
Reads (Err NoMemory) wanted = Unit {0}

-- what is asked is in key order
abbrev pub IsInOrder : KeepLine → Type 0
IsInOrder (line.Ask ask) = IsInKeyOrder ask
IsInOrder _ = Unit {0}
