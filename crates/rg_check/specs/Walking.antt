-- For proofs alone: a check line by line, which knows of the command where its lines stand.
use Rattle.std.specs.Prelude.{ℕ, ◌+◌, ◌-◌, ◌^◌, min, Bool, true, false, List, [], ◌∷◌, Option, Some, None, if◌then◌else◌}
use Rattle.std.specs.Option.{option_map_or}
use Rattle.rg_base.specs.declared.numbers.Moment.{Moment}
use Rattle.rg_script.specs.declared.cause.Cause.{Cause}
use Rattle.rg_script.specs.declared.cause.Place.{Place}
use Rattle.rg_script.specs.declared.cause.Place.TheVariants.{Start}
use Rattle.rg_run_script.specs.declared.status.Status.{Status}
use Rattle.rg_run_script.specs.declared.status.Status.TheVariants.{Done, BadLine}
use Rattle.rg_run_script.specs.Follow.{Work}
use Rattle.rg_check.specs.declared.checker.Checker.{Checker}
use Rattle.rg_check.specs.declared.command.Command.{Command}
use Rattle.rg_check.specs.declared.kind.LineKind.{LineKind}
use Rattle.rg_check.specs.Causes.{cause_text, end_text}
use Rattle.rg_check.specs.Checking.{Finding, at_end, finding, finding_line, is_bad_end}
use Rattle.rg_check.specs.Kinds.{place_after}
use Rattle.rg_check.specs.Reasons.{kind_at, reason_at}

-- numbers stand still at the last u64
abbrev pub next_number : ℕ → ℕ
next_number n = min (n + 1) (2 ^ 64 - 1)

-- what is printed for a line with this cause
abbrev pub told : Checker → Option Cause → Option LineKind → List ℕ
told c None kind = []
told c (Some cause) kind = finding_line c.number (cause_text c.command c.place kind cause)

-- the checker after such a line
abbrev pub moved : Checker → Option Cause → Option LineKind → Checker
moved c None kind = record { command = c.command; place = place_after c.place kind; number = next_number c.number; found = c.found }
moved c (Some cause) kind = record { command = c.command; place = c.place; number = next_number c.number; found = true }

abbrev pub line_work : Checker → Option Cause → Option LineKind → Work Checker
line_work c cause kind = record { text = told c cause kind; state = moved c cause kind; decided = [] }

-- no line ends a check
abbrev pub check_step : Checker → List ℕ → Moment → Option (Work Checker)
check_step c bytes now = Some (line_work c (reason_at c.command c.place bytes now) (kind_at c.command bytes now))

-- nothing is checked yet
abbrev pub begins : Command → Checker
begins command = record { command = command; place = Start; number = 1; found = false }

-- what is found behind the last line
abbrev pub ending : Checker → List Finding
ending c = at_end c.command c.place c.number

-- what is printed of the end of the lines
abbrev pub end_told : Checker → List ℕ
end_told c = if is_bad_end c.command c.place then finding_line c.number end_text else []

-- a script with a bad line isn't done
abbrev pub status_after : Bool → List Finding → Status
status_after found [] = if found then BadLine else Done
status_after found (f ∷ fs) = BadLine

-- what is found in these lines, the first of them being line n, which stands here
abbrev pub found_from : Command → Place → ℕ → List (List ℕ) → List Moment → List Finding
found_from command place n [] ms = at_end command place n
found_from command place n (line ∷ lines) [] = []
found_from command place n (line ∷ lines) (m ∷ ms) =
    option_map_or (λ cause. finding n (cause_text command place (kind_at command line m) cause) ∷ found_from command place (n + 1) lines ms) (reason_at command place line m)
    (found_from command (place_after place (kind_at command line m)) (n + 1) lines ms)
