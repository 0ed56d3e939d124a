-- A script explained: for each decision of a script of `replay` that is wanted why it is as it is.
use Rattle.std.specs.Prelude.{ℕ, zero, suc, ◌++◌, Bool, false, true, List, [], ◌∷◌, Option, Some, None, option_map, if◌then◌else◌}
use Rattle.rg_base.specs.declared.numbers.Moment.{Moment}
use Rattle.rg_policy.specs.declared.request.AccessRequest.{AccessRequest}
use Rattle.rg_facts.specs.declared.facts.Facts.{Facts}
use Rattle.rg_explain.specs.Explaining.{explanation}
use Rattle.rg_explain.specs.declared.explanation.Explanation.{Explanation}
use Rattle.rg_explain_wire.specs.Printing.{explanation_text}
use Rattle.rg_explain_wire.specs.Words.{explanation_words}
use Rattle.rg_publish.specs.declared.history.Publication.{Publication}
use Rattle.rg_script.specs.Line.{line_of}
use Rattle.rg_script.specs.declared.line.Line.{Line}
use Rattle.rg_script.specs.declared.line.Line.TheVariants as line
use Rattle.rg_run_script.specs.Follow.{Script, Work, worked}
use Rattle.rg_run_script.specs.Printed.{quiet}
use Rattle.rg_run_replay.specs.Replay.{State, newest_of, prepare_work}
use Rattle.rg_run_replay.specs.declared.replay.Stage.TheVariants as state
use Rattle.rg_explain_script.specs.declared.options.Form.{Form}
use Rattle.rg_explain_script.specs.declared.options.Form.TheVariants as form
use Rattle.rg_explain_script.specs.declared.options.Options.{Options}
use Rattle.rg_explain_script.specs.declared.options.Style.{Style}
use Rattle.rg_explain_script.specs.declared.options.Wanted.{Wanted}
use Rattle.rg_explain_script.specs.declared.options.Wanted.TheVariants as wanted

-- ---- what is printed

abbrev pub text_in : Form → Bool → AccessRequest → Explanation → List ℕ
text_in form.Words all q e = explanation_words all q e
text_in form.Json all q e = explanation_text all q e

-- the explanation of the request over these facts, with an LF behind it; its serial isn't printed
unfoldable pub explained_text : Style → Facts → AccessRequest → List ℕ
explained_text style facts q = text_in style.form style.all q (explanation facts q (record { 0 = 0 })) ++ 10 ∷ []

-- ---- which decisions are wanted

abbrev pub is_wanted : Wanted → Bool
is_wanted wanted.Every = true
is_wanted (wanted.After zero) = true
is_wanted (wanted.After (suc n)) = false
is_wanted wanted.Nothing = false

-- of those after the next
abbrev pub then_wanted : Wanted → Wanted
then_wanted wanted.Every = wanted.Every
then_wanted (wanted.After zero) = wanted.Nothing
then_wanted (wanted.After (suc n)) = wanted.After n
then_wanted wanted.Nothing = wanted.Nothing

-- ---- the work of a line in a state; None for a bad line

-- how explanations are told, which never changes, how far the script has come, and which of its decisions to come are wanted
pub record Progress : Type 0 where
  pub style : Style
  pub script : State
  pub wanted : Wanted

abbrev pub progress : Style → State → Wanted → Progress
progress style s w = record { style = style; script = s; wanted = w }

-- it is printed where it is wanted, and nothing is decided for the request
abbrev pub explaining : Progress → AccessRequest → Publication → Work Progress
explaining s q p = record {
  text = if is_wanted s.wanted then explained_text s.style p.facts q else [];
  state = progress s.style s.script (then_wanted s.wanted);
  decided = [];
}

-- a request is explained by what is published last
unfoldable pub explain_work : Progress → AccessRequest → Option (Work Progress)
explain_work s q = option_map (explaining s q) (newest_of s.script)

-- nothing is printed of any other line
abbrev pub unprinted : Progress → Work State → Work Progress
unprinted s w = quiet (progress s.style w.state s.wanted)

abbrev pub line_work : Progress → Option Line → Option (Work Progress)
line_work s None = None
line_work s (Some (line.Decide q)) = explain_work s q
line_work s (Some read) = option_map (unprinted s) (prepare_work s.script read)

-- ---- the script

-- a line in a state at its moment
abbrev pub explain_step : Progress → List ℕ → Moment → Option (Work Progress)
explain_step s bytes now = line_work s (line_of bytes now)

abbrev pub begins : Options → Progress
begins o = progress o.style state.Empty o.wanted

-- what the lines come to, each read and worked at its moment
abbrev pub explained : Options → Script Progress
explained o = worked explain_step (begins o) 1
