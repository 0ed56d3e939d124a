-- A script of `replay` tested: its comments say what is expected of the lines before them.
use Rattle.std.specs.Prelude.{ℕ, ◌+◌, ◌-◌, ◌^◌, ◌==◌, ◌++◌, ◌&&◌, min, not, Bool, false, true, List, [], ◌∷◌, Option, Some, None, option_map, if◌then◌else◌}
use Rattle.std.specs.Option.{option_map_or}
use Rattle.std.specs.Str.{is_utf8}
use Rattle.rg_base.specs.declared.numbers.Moment.{Moment}
use Rattle.rg_explain.specs.Explaining.{explanation}
use Rattle.rg_explain_wire.specs.Words.{explanation_words}
use Rattle.rg_wire.specs.Printing.{decision_text}
use Rattle.rg_publish.specs.declared.history.Publication.{Publication}
use Rattle.rg_script.specs.Line.{is_blank}
use Rattle.rg_run_script.specs.Follow.{Decided, Output, Script, Work, worked}
use Rattle.rg_run_script.specs.declared.status.Status.{Status}
use Rattle.rg_run_script.specs.declared.status.Status.TheVariants.{Done, BadLine}
use Rattle.rg_run_script.specs.Printed.{quiet}
use Rattle.rg_run_replay.specs.Replay.{State, newest_of, replay_step}
use Rattle.rg_run_replay.specs.declared.replay.Stage.TheVariants as state
use Rattle.rg_test_script.specs.declared.form.Form.{Form}
use Rattle.rg_test_script.specs.declared.outcome.Outcome.{Outcome}
use Rattle.rg_test_script.specs.declared.outcome.Outcome.TheVariants as outcome
use Rattle.rg_test_script.specs.Expecting.{is_form, is_met, wanted_by}
use Rattle.rg_test_script.specs.Printing.{failed_text, passed_text, summary, top}

-- ---- how far the tests have come

-- how the tests are printed, which stays; how far the script has come; what the last line that isn't a comment came to; the number of the next
-- line; and how many expectations were met and weren't
pub record Progress : Type 0 where
  pub form : Form
  pub script : State
  pub last : Outcome
  pub number : ℕ
  pub passed : ℕ
  pub failed : ℕ

-- numbers stand still at the last u64
abbrev pub next_number : ℕ → ℕ
next_number n = min (n + 1) (2 ^ 64 - 1)

-- what a line of the replay came to
abbrev pub outcome_by : List Decided → List ℕ → Outcome
outcome_by (d ∷ ds) text = outcome.Decided d.request d.decision
outcome_by [] [] = outcome.Nothing
outcome_by [] (b ∷ bs) = outcome.Printed (b ∷ bs)

abbrev pub outcome_of : Work State → Outcome
outcome_of w = outcome_by w.decided w.text

-- ---- an expectation

-- what is told of an outcome: the line that is printed
abbrev pub line_of_outcome : Outcome → List ℕ
line_of_outcome outcome.Nothing = []
line_of_outcome (outcome.Printed text) = text
line_of_outcome (outcome.Decided q d) = decision_text d ++ 10 ∷ []

-- and why, where it is a decision
abbrev pub reason_of : Option Publication → Outcome → List ℕ
reason_of (Some p) (outcome.Decided q d) = explanation_words false q (explanation p.facts q (record { 0 = 0 }))
reason_of _ _ = []

abbrev pub failure : Progress → List ℕ → List ℕ
failure s wanted = failed_text s.form s.number wanted (line_of_outcome s.last) (reason_of (newest_of s.script) s.last)

abbrev pub judged_text : Progress → List ℕ → List ℕ
judged_text s wanted = if is_met wanted s.last then passed_text s.form s.number wanted else failure s wanted

abbrev pub counted : Progress → Bool → Progress
counted s met = record {
  form = s.form;
  script = s.script;
  last = s.last;
  number = next_number s.number;
  passed = if met then next_number s.passed else s.passed;
  failed = if met then s.failed else next_number s.failed;
}

abbrev pub judged : Progress → List ℕ → Work Progress
judged s wanted = record { text = judged_text s wanted; state = counted s (is_met wanted s.last); decided = [] }

-- it has a form, and stands behind a line that came to something
abbrev pub stands_behind : Outcome → Bool
stands_behind outcome.Nothing = false
stands_behind (outcome.Printed text) = true
stands_behind (outcome.Decided q d) = true

abbrev pub is_sound : Progress → List ℕ → Bool
is_sound s wanted = is_utf8 wanted && (is_form wanted && stands_behind s.last)

unfoldable pub judge_work : Progress → List ℕ → Option (Work Progress)
judge_work s wanted = if is_sound s wanted then Some (judged s wanted) else None

-- ---- any other line

abbrev pub moved : Progress → State → Outcome → Progress
moved s script last = record { form = s.form; script = script; last = last; number = next_number s.number; passed = s.passed; failed = s.failed }

-- a blank line changes nothing, and every other one is worked as `replay` works it, with nothing printed
unfoldable pub other_work : Progress → List ℕ → Moment → Option (Work Progress)
other_work s bytes now =
    if is_blank bytes then Some (quiet (moved s s.script s.last))
    else option_map (λ (w : Work State). quiet (moved s w.state (outcome_of w))) (replay_step s.script bytes now)

-- ---- the script

-- a line at its moment
abbrev pub test_step : Progress → List ℕ → Moment → Option (Work Progress)
test_step s bytes now = option_map_or (judge_work s) (wanted_by bytes) (other_work s bytes now)

abbrev pub begins : Form → Progress
begins form = record { form = form; script = state.Empty; last = outcome.Nothing; number = 1; passed = 0; failed = 0 }

-- tests are done where all were met, and there was one
abbrev pub ended_by : Progress → Status → Status
ended_by s Done = if s.failed == 0 && not (s.passed == 0) then Done else BadLine
ended_by s status = status

-- what is printed stands between the top and the summary
abbrev pub framed : Progress → Status → List ℕ → List ℕ
framed s status text = top s.form ++ (text ++ summary s.form status s.passed s.failed)

abbrev pub ended : Output Progress → Output Progress
ended o = record { text = framed o.state o.status o.text; status = ended_by o.state o.status; state = o.state; decided = [] }

-- what the tests of the lines come to, each read and worked at its moment
unfoldable pub tested : Form → Script Progress
tested form lines moments = option_map ended (worked test_step (begins form) 1 lines moments)
