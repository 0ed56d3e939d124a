-- The causes for which a line isn't read.
use Rattle.std.proofs.Common.{◌≡◌, ℕ, List, Bool, true, false, cond, Option, Some, None, Result, Ok, Err, refl, is_none}
use Rattle.rg_base.specs.declared.numbers.Moment.{Moment}
use Rattle.rg_cmd_wire.specs.Reading.{command_reading}
use Rattle.rg_cmd_wire.specs.Rows.{config_of}
use Rattle.rg_json.specs.declared.fault.Fault.{Fault}
use Rattle.rg_json.specs.Reading.{reading}
use Rattle.rg_wire.specs.Records.{facts_of, request_of}
use Rattle.rg_wire.specs.Shapes.{config_shape, facts_shape, request_shape}
use Rattle.rg_script.specs.declared.cause.Cause.{Cause}
use Rattle.rg_script.specs.declared.line.Line.{Line}
use Rattle.rg_script.specs.declared.line.Line.TheVariants as line
use Rattle.rg_script.specs.declared.word.Word.{Word}
use Rattle.rg_script.specs.declared.word.Word.TheVariants as word
use Rattle.rg_script.specs.Causes.{is_unread}
use Rattle.rg_script.specs.Line.{actor_of, ask_read, asked_by, is_blank, line_from, line_of, line_read, worded}
use Rattle.rg_script.specs.Words.{behind_space, front_word, word_of}

-- no line stands out of place, is unsound or breaks a rule before it is read
abbrev OnlyUnread : Result Line Cause → Type 0
OnlyUnread (Ok line) = Unit {0}
OnlyUnread (Err cause) = is_unread (Some cause) ≡ true

from_only : {X : Type 0} (make : X → Line) (read : Result X Fault) → OnlyUnread (line_from make read)
from_only make (Ok x) = tt
from_only make (Err fault) = refl

ask_only : (actor json : Option (List ℕ)) → OnlyUnread (ask_read actor json)
ask_only (Some actor) (Some json) = from_only (asked_by actor) (command_reading json)
ask_only (Some actor) None = refl
ask_only None (Some json) = refl
ask_only None None = refl

worded_only : (now : Moment) (w : Option Word) (rest : Option (List ℕ)) → OnlyUnread (worded now w rest)
worded_only now (Some word.Facts) (Some json) = from_only line.Facts (reading facts_shape facts_of json)
worded_only now (Some word.Config) (Some json) = from_only line.Config (reading config_shape config_of json)
worded_only now (Some word.Admin) (Some rest) = ask_only (actor_of (front_word rest)) (behind_space rest)
worded_only now (Some word.Refresh) (Some rest) = refl
worded_only now (Some word.Decide) (Some json) = from_only line.Decide (reading request_shape (request_of now) json)
worded_only now (Some word.Facts) None = refl
worded_only now (Some word.Config) None = refl
worded_only now (Some word.Admin) None = refl
worded_only now (Some word.Refresh) None = tt
worded_only now (Some word.Decide) None = refl
worded_only now None None = refl
worded_only now None (Some json) = refl

blank_or_worded : (b : Bool) (read : Result Line Cause) → OnlyUnread read → OnlyUnread (cond b (Ok line.Blank) read)
blank_or_worded true read only = tt
blank_or_worded false read only = only

read_only : (bytes : List ℕ) (now : Moment) → OnlyUnread (line_read bytes now)
unfolding line_read
read_only bytes now = blank_or_worded (is_blank bytes) _ (worded_only now (word_of (front_word bytes)) (behind_space bytes))

pub unread_cause : (bytes : List ℕ) (now : Moment) (cause : Cause) → line_read bytes now ≡ Err cause → is_unread (Some cause) ≡ is_none (line_of bytes now)
unread_cause bytes now cause e = let only = rw e at (read_only bytes now) in rw e only
