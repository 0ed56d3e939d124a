-- The lines that scripts of one command alone have, read.
use Rattle.std.specs.Prelude.{ℕ, List, codes, Bool, true, false, Option, Some, None, option_map, Result, Ok, Err, if◌then◌else◌}
use Rattle.std.specs.Str.{bytes_eq}
use Rattle.rg_base.specs.declared.numbers.Moment.{Moment}
use Rattle.rg_json.specs.Reading.{reading}
use Rattle.rg_json.specs.declared.fault.Fault.{Fault}
use Rattle.rg_cmd_wire.specs.Reading.{command_reading}
use Rattle.rg_grant.specs.Rows.{grant_shape, row_of}
use Rattle.rg_acl.specs.Asks.{ask_of, ask_shape}
use Rattle.rg_script.specs.declared.cause.Cause.TheVariants as cause
use Rattle.rg_script.specs.Line.{actor_of}
use Rattle.rg_script.specs.Words.{behind_space, front_word}
use Rattle.rg_run_grants.specs.Lines.{change_of}
use Rattle.rg_run_grants.specs.declared.line.Change.{Change}
use Rattle.rg_run_grants.specs.declared.line.Change.TheVariants as change
use Rattle.rg_run_report.specs.Report.{asked_in}
use Rattle.rg_check.specs.declared.command.Command.{Command}
use Rattle.rg_check.specs.declared.command.Command.TheVariants as command
use Rattle.rg_check.specs.declared.kind.LineKind.{LineKind}
use Rattle.rg_check.specs.declared.kind.LineKind.TheVariants as kind
use Rattle.rg_check.specs.declared.own.OwnLine.{OwnLine}
use Rattle.rg_check.specs.declared.own.OwnLine.TheVariants.{Read, Unread}

-- a record that is read makes a line of this kind, and its first fault a cause
abbrev pub read_as : {X : Type 0} → LineKind → Result X Fault → OwnLine
read_as kind (Ok x) = Read kind
read_as kind (Err fault) = Unread (cause.Json fault.path fault.kind)

-- ---- grants: behind `grant` and `revoke` come the actor, one space and the row

abbrev pub kind_of_change : Change → LineKind
kind_of_change change.Grant = kind.Grant
kind_of_change change.Revoke = kind.Revoke

abbrev pub row_line : LineKind → Option (List ℕ) → Option (List ℕ) → OwnLine
row_line kind (Some actor) (Some json) = read_as kind (reading grant_shape row_of json)
row_line kind _ _ = Unread cause.NoWord

abbrev pub change_line : LineKind → Option (List ℕ) → OwnLine
change_line kind (Some rest) = row_line kind (actor_of (front_word rest)) (behind_space rest)
change_line kind None = Unread cause.NoWord

-- the lines of this word
abbrev pub worded_change : List ℕ → Option LineKind → Option OwnLine
worded_change bytes kind = option_map (λ kind. change_line kind (behind_space bytes)) kind

abbrev pub grants_line : List ℕ → Option OwnLine
grants_line bytes = worded_change bytes (option_map kind_of_change (change_of (front_word bytes)))

-- ---- report: behind `report` comes what is asked

abbrev pub report_line : List ℕ → Moment → Option OwnLine
report_line bytes now = option_map (λ json. read_as kind.Report (reading ask_shape (ask_of now) json)) (asked_in bytes)

-- ---- keep: nothing follows `reopen`; behind `admin` come the actor, one space and the command, which are read as its own

abbrev pub command_line : Option (List ℕ) → Option (List ℕ) → OwnLine
command_line (Some actor) (Some json) = read_as kind.Admin (command_reading json)
command_line _ _ = Unread cause.NoWord

abbrev pub admin_line : Option (List ℕ) → OwnLine
admin_line (Some rest) = command_line (actor_of (front_word rest)) (behind_space rest)
admin_line None = Unread cause.NoWord

unfoldable pub keep_line : List ℕ → Option OwnLine
keep_line bytes = if bytes_eq bytes (codes "reopen") then Some (Read kind.Reopen) else
    (if bytes_eq (front_word bytes) (codes "admin") then Some (admin_line (behind_space bytes)) else None)

-- a kind of lines of other scripts too that the command reads as its own
abbrev pub is_own : Command → LineKind → Bool
is_own command.Keep kind.Admin = true
is_own _ _ = false

-- the line as one of the command's own; None where it is no such line
abbrev pub own_line : Command → List ℕ → Moment → Option OwnLine
own_line command.Replay bytes now = None
own_line command.Grants bytes now = grants_line bytes
own_line command.Report bytes now = report_line bytes now
own_line command.Keep bytes now = keep_line bytes
own_line command.Serve bytes now = None
