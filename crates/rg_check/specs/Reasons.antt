-- What a line is in a script of a command, and why it is bad where it stands.
use Rattle.std.specs.Prelude.{ℕ, ◌&&◌, not, Bool, true, List, Option, Some, None, option_map, Result, if◌then◌else◌}
use Rattle.std.specs.Result.{result_ok}
use Rattle.rg_base.specs.declared.numbers.Moment.{Moment}
use Rattle.rg_script.specs.declared.cause.Cause.{Cause}
use Rattle.rg_script.specs.declared.cause.Cause.TheVariants.{OutOfPlace}
use Rattle.rg_script.specs.declared.cause.Place.{Place}
use Rattle.rg_script.specs.declared.cause.Place.TheVariants.{Start, Facts, Config}
use Rattle.rg_script.specs.declared.line.Line.{Line}
use Rattle.rg_script.specs.Causes.{cause_from}
use Rattle.rg_script.specs.Line.{line_read}
use Rattle.rg_check.specs.declared.command.Command.{Command}
use Rattle.rg_check.specs.declared.kind.LineKind.{LineKind}
use Rattle.rg_check.specs.declared.own.OwnLine.{OwnLine}
use Rattle.rg_check.specs.declared.own.OwnLine.TheVariants.{Read, Unread}
use Rattle.rg_check.specs.Kinds.{kind_of, takes}
use Rattle.rg_check.specs.Own.{is_own, own_line}

-- ---- a line of the command's own stands behind what the script begins with

abbrev pub own_cause : OwnLine → Place → Option Cause
own_cause (Unread cause) place = Some cause
own_cause (Read kind) Start = Some OutOfPlace
own_cause (Read kind) Facts = None
own_cause (Read kind) Config = None

abbrev pub own_kind : OwnLine → Option LineKind
own_kind (Read kind) = Some kind
own_kind (Unread cause) = None

-- ---- another line is of a kind that the command's scripts have, and stands where one may stand in a script of `replay`

abbrev pub may_stand : Command → Option LineKind → Bool
may_stand command None = true
may_stand command (Some kind) = takes command kind && not (is_own command kind)

abbrev pub plain_kind : Result Line Cause → Option LineKind
plain_kind read = option_map kind_of (result_ok read)

abbrev pub plain_cause : Command → Place → Result Line Cause → Option Cause
plain_cause command place read = if may_stand command (plain_kind read) then cause_from place read else Some OutOfPlace

-- ---- any line

abbrev pub kind_from : Option OwnLine → Result Line Cause → Option LineKind
kind_from (Some own) read = own_kind own
kind_from None read = plain_kind read

abbrev pub reason_from : Command → Place → Option OwnLine → Result Line Cause → Option Cause
reason_from command place (Some own) read = own_cause own place
reason_from command place None read = plain_cause command place read

-- what the line is; None where it isn't read
abbrev pub kind_at : Command → List ℕ → Moment → Option LineKind
kind_at command bytes now = kind_from (own_line command bytes now) (line_read bytes now)

-- why it is bad where it stands; None where it isn't
abbrev pub reason_at : Command → Place → List ℕ → Moment → Option Cause
reason_at command place bytes now = reason_from command place (own_line command bytes now) (line_read bytes now)
