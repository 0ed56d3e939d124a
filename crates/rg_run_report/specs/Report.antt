-- The command `report`: a script of facts, and of what is asked about them.
use Rattle.std.specs.Prelude.{ℕ, ◌++◌, List, [], ◌∷◌, codes, Option, Some, None, option_and_then, option_map, if◌then◌else◌}
use Rattle.std.specs.List.{flat_map}
use Rattle.std.specs.Result.{result_ok}
use Rattle.std.specs.Str.{bytes_eq}
use Rattle.rg_base.specs.declared.numbers.Moment.{Moment}
use Rattle.rg_facts.specs.declared.facts.Facts.{Facts}
use Rattle.rg_json.specs.Reading.{reading}
use Rattle.rg_acl.specs.Asks.{ask_of, ask_shape}
use Rattle.rg_acl.specs.Printing.{row_text}
use Rattle.rg_acl.specs.Rows.{report_rows}
use Rattle.rg_acl.specs.declared.ask.ReportAsk.{ReportAsk}
use Rattle.rg_acl.specs.declared.row.ReportRow.{ReportRow}
use Rattle.rg_script.specs.Line.{line_of}
use Rattle.rg_script.specs.Words.{behind_space, front_word}
use Rattle.rg_script.specs.declared.line.Line.{Line}
use Rattle.rg_script.specs.declared.line.Line.TheVariants as line
use Rattle.rg_run_script.specs.Follow.{Output, Work, worked}
use Rattle.rg_run_replay.specs.Replay.{published_facts}
use Rattle.rg_run_script.specs.Printed.{quiet}

-- the facts of the script; None before them
abbrev pub State : Type 0
State = Option Facts

-- ---- what is printed

unfoldable pub row_line : ReportRow → List ℕ
row_line row = row_text row ++ 10 ∷ []

-- the rows of a report, each with an LF
abbrev pub row_lines : List ReportRow → List ℕ
row_lines rows = flat_map row_line rows

-- ---- the work of a line in a state; None for a bad line

-- a script begins with facts, which are sound
unfoldable pub facts_work : State → Facts → Option (Work State)
facts_work None facts = option_map (λ f. quiet (Some f)) (published_facts facts)
facts_work (Some old) facts = None

-- after them come asks; the rows are printed, and nothing is decided for a request
abbrev pub reporting : State → List ReportRow → Work State
reporting s rows = record { text = row_lines rows; state = s; decided = [] }

unfoldable pub ask_work : State → ReportAsk → Option (Work State)
ask_work s ask = option_map (reporting s) (option_map (λ facts. report_rows facts ask) s)

-- an ask without a time is made now
abbrev pub json_work : State → List ℕ → Moment → Option (Work State)
json_work s json now = option_and_then (ask_work s) (result_ok (reading ask_shape (ask_of now) json))

-- of the other lines only facts and blank ones belong here
abbrev pub line_work : State → Option Line → Option (Work State)
line_work s (Some line.Blank) = Some (quiet s)
line_work s (Some (line.Facts facts)) = facts_work s facts
line_work s _ = None

-- what follows the word `report` and one space, in a line that begins with them
unfoldable pub asked_in : List ℕ → Option (List ℕ)
asked_in bytes = if bytes_eq (front_word bytes) (codes "report") then behind_space bytes else None

abbrev pub work_by : State → List ℕ → Moment → Option (List ℕ) → Option (Work State)
work_by s bytes now (Some json) = json_work s json now
work_by s bytes now None = line_work s (line_of bytes now)

-- ---- the script

-- a line in a state at its moment
abbrev pub report_step : State → List ℕ → Moment → Option (Work State)
report_step s bytes now = work_by s bytes now (asked_in bytes)

-- what the lines come to, each read and worked at its moment
abbrev pub reported : List (List ℕ) → List Moment → Option (Output State)
reported = worked report_step None 1
