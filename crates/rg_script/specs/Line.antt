-- What a line of a script asks.
use Rattle.std.specs.Prelude.{◌≡◌, ℕ, ◌==◌, ◌&&◌, Bool, true, List, [], ◌∷◌, Option, Some, None, Result, Ok, Err, if◌then◌else◌}
use Rattle.std.specs.Result.{result_ok}
use Rattle.std.specs.Str.{chars, is_utf8}
use Rattle.rg_base.specs.Texts.{is_name}
use Rattle.rg_base.specs.declared.numbers.Moment.{Moment}
use Rattle.rg_cmd.specs.declared.ask.AdminCommand.{AdminCommand}
use Rattle.rg_cmd_wire.specs.Reading.{command_reading}
use Rattle.rg_cmd_wire.specs.Rows.{config_of}
use Rattle.rg_json.specs.declared.fault.Fault.{Fault}
use Rattle.rg_json.specs.Reading.{reading}
use Rattle.rg_wire.specs.Records.{facts_of, request_of}
use Rattle.rg_wire.specs.Shapes.{config_shape, facts_shape, request_shape}
use Rattle.rg_script.specs.declared.cause.Cause.{Cause}
use Rattle.rg_script.specs.declared.cause.Cause.TheVariants as cause
use Rattle.rg_script.specs.declared.line.Line.{Line}
use Rattle.rg_script.specs.declared.line.Line.TheVariants as line
use Rattle.rg_script.specs.declared.line.Unread.{Unread}
use Rattle.rg_script.specs.declared.line.Unread.TheVariants as unread
use Rattle.rg_script.specs.declared.word.Word.{Word}
use Rattle.rg_script.specs.declared.word.Word.TheVariants as word
use Rattle.rg_script.specs.Words.{behind_space, front_word, word_of}

-- an empty line and one that begins with `#` are blank
abbrev pub is_blank : List ℕ → Bool
is_blank [] = true
is_blank (b ∷ bs) = b == 35

-- a record that is read makes a line, and its first fault a cause
abbrev pub line_from : {X : Type 0} → (X → Line) → Result X Fault → Result Line Cause
line_from make (Ok x) = Ok (make x)
line_from make (Err fault) = Err (cause.Json fault.path fault.kind)

abbrev pub facts_read : List ℕ → Result Line Cause
facts_read json = line_from line.Facts (reading facts_shape facts_of json)

abbrev pub config_read : List ℕ → Result Line Cause
config_read json = line_from line.Config (reading config_shape config_of json)

-- a request without a time is made now
abbrev pub request_read : Moment → List ℕ → Result Line Cause
request_read now json = line_from line.Decide (reading request_shape (request_of now) json)

-- an actor has 1 to 256 characters
unfoldable pub actor_of : List ℕ → Option (List ℕ)
actor_of text = if is_utf8 text && is_name (chars text) then Some (chars text) else None

-- the actor asks the command
abbrev pub asked_by : List ℕ → AdminCommand → Line
asked_by actor command = line.Admin (record { actor = actor; command = command })

abbrev pub ask_read : Option (List ℕ) → Option (List ℕ) → Result Line Cause
ask_read (Some actor) (Some json) = line_from (asked_by actor) (command_reading json)
ask_read _ _ = Err cause.NoWord

-- what each word asks with what follows its space: behind `admin` come the actor, one space and the command; nothing follows
-- `refresh`, not even a space
abbrev pub worded : Moment → Option Word → Option (List ℕ) → Result Line Cause
worded now (Some word.Facts) (Some json) = facts_read json
worded now (Some word.Config) (Some json) = config_read json
worded now (Some word.Admin) (Some rest) = ask_read (actor_of (front_word rest)) (behind_space rest)
worded now (Some word.Refresh) None = Ok line.Refresh
worded now (Some word.Decide) (Some json) = request_read now json
worded now _ _ = Err cause.NoWord

-- what a line asks, or why it isn't read: a line is a word, one space and the rest
unfoldable pub line_read : List ℕ → Moment → Result Line Cause
line_read bytes now = if is_blank bytes then Ok line.Blank else worded now (word_of (front_word bytes)) (behind_space bytes)

-- the line, or None for one that isn't read
abbrev pub line_of : List ℕ → Moment → Option Line
line_of bytes now = result_ok (line_read bytes now)

-- the answer is the reading, unless memory was refused
abbrev pub Reads : Result Line Unread → Result Line Cause → Type 0
Reads (Ok read) wanted = wanted ≡ Ok read
Reads (Err (unread.Bad cause)) wanted = wanted ≡ Err cause
Reads (Err unread.NoMemory) wanted = Unit {0}
