-- The command `keep`: a script of an administration whose commands are kept. To be read after Follow and Hooked of rg_run_script and Replay of
-- rg_keep.
use Rattle.std.specs.Prelude.{ℕ, ◌++◌, List, [], codes, decimal, length, Option, Some, None, option_map, if◌then◌else◌}
use Rattle.rg_base.specs.declared.numbers.Moment.{Moment}
use Rattle.rg_policy.specs.declared.request.AccessRequest.{AccessRequest}
use Rattle.rg_cmd.specs.declared.ask.Ask.{Ask}
use Rattle.rg_cmd.specs.declared.config.Config.{Config}
use Rattle.rg_cmd.specs.declared.rule.Rule.{Rule}
use Rattle.rg_keep.specs.Logs.{Administration}
use Rattle.rg_keep.specs.Starting.{start_fault}
use Rattle.rg_run_script.specs.Current.{decision_now}
use Rattle.rg_ask_wire.specs.Asks.{ask_text}
use Rattle.rg_keep.specs.Keeping.{added_if, is_past}
use Rattle.rg_keep.specs.Replay.{first_bad, is_kept, replayed, stepped}
use Rattle.rg_run_keep.specs.Lines.{keep_line_of}
use Rattle.rg_run_keep.specs.declared.line.KeepLine.{KeepLine}
use Rattle.rg_run_keep.specs.declared.line.KeepLine.TheVariants as line
use Rattle.rg_hook.specs.Enriching.{EnricherState}
use Rattle.rg_run_script.specs.Follow.{Output, Work, worked}
use Rattle.rg_run_script.specs.Hooked.{Hooked, carrying, hooked, judged, with_enrichers}
use Rattle.rg_run_script.specs.Printed.{quiet, reply_line}

-- a configuration, and the administration since
pub record Opened : Type 0 where
  pub config : Config
  pub admin : Administration

-- how far a script has come: what was opened, None before the configuration; the records so far; and the place of a bad one among
-- those that were found
pub record State : Type 0 where
  pub opened : Option Opened
  pub records : List (List ℕ)
  pub bad : Option ℕ

-- the administration is now this one, and the records are these
abbrev pub at : Option Opened → List (List ℕ) → State
at opened records = record { opened = opened; records = records; bad = None }

-- ---- what is printed, each with an LF

unfoldable pub kept_line : ℕ → List ℕ
kept_line n = codes "{\"kept\":" ++ (decimal n ++ codes "}\n")

unfoldable pub full_line : List ℕ
full_line = codes "{\"full\":true}\n"

-- this is printed, and nothing is decided
abbrev pub prints : List ℕ → State → Work State
prints text s = record { text = text; state = s; decided = [] }

-- ---- the work of a line in a state; None for a bad line

-- what the records make of the configuration, or the place of the bad one
abbrev pub opened_by : Config → List (List ℕ) → Option ℕ → State
opened_by config records None = at (Some (record { config = config; admin = replayed config records })) records
opened_by config records (Some place) = record { opened = None; records = records; bad = Some place }

abbrev pub opened_unless : Option Rule → Config → List (List ℕ) → Option (Work State)
opened_unless None config records = Some (quiet (opened_by config records (first_bad config records)))
opened_unless (Some rule) config records = None

-- a script begins with a configuration, which breaks no rule
unfoldable pub config_work : Option Opened → List (List ℕ) → Config → Option (Work State)
config_work None records config = opened_unless (start_fault config) config records
config_work (Some o) records config = None

-- the reply is printed, and an accepted command that changes the state is kept
abbrev pub replied : Opened → List (List ℕ) → Ask → Work State
replied o records ask = prints (reply_line (stepped o.admin ask).1)
    (at (Some (record { config = o.config; admin = (stepped o.admin ask).0 })) (added_if (is_kept o.admin ask) (ask_text ask) records))

-- after it the administration is asked; where as many commands are kept as may be, one that is to be kept changes nothing
unfoldable pub ask_work : Option Opened → List (List ℕ) → Ask → Option (Work State)
ask_work None records ask = None
ask_work (Some o) records ask = Some (if is_past (length records) ask then prints full_line (at (Some o) records) else replied o records ask)

-- it goes on from what the records make
unfoldable pub reopen_work : Option Opened → List (List ℕ) → Option (Work State)
reopen_work None records = None
reopen_work (Some o) records = Some (prints (kept_line (length records)) (at (Some (record { config = o.config; admin = replayed o.config records })) records))

-- and requests are enriched, and decided over what the plugin sees then
unfoldable pub judge_work : Option Opened → List (List ℕ) → List EnricherState → AccessRequest → Option (Work (Hooked State))
judge_work None records es q = None
judge_work (Some o) records es q = judged (at (Some o) records) o.admin.state.plugin es (decision_now o.admin) q

-- the other lines leave the enrichers alone
abbrev pub line_work : Option Opened → List (List ℕ) → List EnricherState → Option KeepLine → Option (Work (Hooked State))
line_work o records es None = None
line_work o records es (Some line.Blank) = Some (carrying es (quiet (at o records)))
line_work o records es (Some (line.Config config)) = option_map (carrying es) (config_work o records config)
line_work o records es (Some (line.Ask ask)) = option_map (carrying es) (ask_work o records ask)
line_work o records es (Some line.Reopen) = option_map (carrying es) (reopen_work o records)
line_work o records es (Some (line.Decide q)) = judge_work o records es q

-- after a bad record nothing more is worked
abbrev pub unless_bad : Option ℕ → State → List EnricherState → Option (Work (Hooked State)) → Option (Work (Hooked State))
unless_bad None s es work = work
unless_bad (Some place) s es work = Some (carrying es (quiet s))

-- ---- the script

-- a line in a state and with these enrichers, at its moment
abbrev pub keep_step : State → List EnricherState → List ℕ → Moment → Option (Work (Hooked State))
keep_step s es bytes now = unless_bad s.bad s es (line_work s.opened s.records es (keep_line_of bytes now))

-- what the lines come to with these enrichers and over the records that were found, each read and worked at its moment
abbrev pub keeps : List EnricherState → List (List ℕ) → List (List ℕ) → List Moment → Option (Output (Hooked State))
keeps es found = worked (with_enrichers keep_step) (hooked (at None found) es) 1
