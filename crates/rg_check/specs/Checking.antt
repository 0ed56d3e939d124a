-- The bad lines of a script with their causes, and the text that names them.
use Rattle.std.specs.Prelude.{ℕ, ◌+◌, ◌==◌, ◌++◌, Bool, true, false, List, [], ◌∷◌, length, codes, decimal, Option, Some, None, if◌then◌else◌}
use Rattle.std.specs.Option.{option_map_or}
use Rattle.rg_base.specs.declared.numbers.Moment.{Moment}
use Rattle.rg_script.specs.declared.cause.Place.{Place}
use Rattle.rg_script.specs.declared.cause.Place.TheVariants as place
use Rattle.rg_run_script.specs.declared.status.Status.{Status}
use Rattle.rg_run_script.specs.declared.status.Status.TheVariants.{Done, BadLine}
use Rattle.rg_run_script.specs.Follow.{Output, Script, Step, Work}
use Rattle.rg_run_script.specs.Hooked.{Hooked, hooked, with_enrichers}
use Rattle.rg_run_replay.specs.declared.replay.Stage.TheVariants as stage
use Rattle.rg_run_replay.specs.Replay.{State, replay_step}
use Rattle.rg_run_grants.specs.Grants.{grants_step}
use Rattle.rg_run_report.specs.Report.{report_step}
use Rattle.rg_run_keep.specs.Keeps.{Opened, State as Keeping, at, keep_step}
use Rattle.rg_run_serve.specs.Serve.{serve_step}
use Rattle.rg_check.specs.declared.command.Command.{Command}
use Rattle.rg_check.specs.declared.command.Command.TheVariants as command
use Rattle.rg_check.specs.Causes.{cause_text, end_text}
use Rattle.rg_check.specs.Reasons.{kind_at, reason_at}

-- the number of a bad line, and why it is bad
pub record Finding : Type 0 where
  pub number : ℕ
  pub why : List ℕ

abbrev pub finding : ℕ → List ℕ → Finding
finding n why = record { number = n; why = why }

-- why a line is bad in this place
abbrev pub why_bad : Command → Place → List ℕ → Moment → List ℕ
why_bad command place bytes now = option_map_or (cause_text command place (kind_at command bytes now)) (reason_at command place bytes now) []

-- whether the end of the lines is bad in this place: the service needs a configuration
abbrev pub is_bad_end : Command → Place → Bool
is_bad_end command.Serve place.Start = true
is_bad_end _ _ = false

-- what is found behind the last line, which would be line n
abbrev pub at_end : Command → Place → ℕ → List Finding
at_end command place n = if is_bad_end command place then finding n end_text ∷ [] else []

-- ---- the bad lines of a command with this step, whose states tell where the lines stand

module _ {S : Type 0} (command : Command) (step : Step S) (place_of : S → Place) where
  -- the bad lines among these, the first of them being line n, which comes in this state: a line is bad exactly where the
  -- command's step is None, and then the command goes on as if the line weren't there
  abbrev pub found : S → ℕ → List (List ℕ) → List Moment → List Finding
  found s n [] ms = at_end command (place_of s) n
  found s n (line ∷ lines) [] = []
  found s n (line ∷ lines) (m ∷ ms) =
      option_map_or (λ (w : Work S). found w.state (n + 1) lines ms) (step s line m) (finding n (why_bad command (place_of s) line m) ∷ found s (n + 1) lines ms)

-- ---- every command

abbrev pub replay_place : State → Place
replay_place stage.Empty = place.Start
replay_place (stage.Facts facts) = place.Facts
replay_place (stage.Config r) = place.Config

-- where the lines stand of a script that has begun, or hasn't
abbrev pub begun : {X : Type 0} → Place → Option X → Place
begun later None = place.Start
begun later (Some x) = later

-- the same for `keep`, which a bad record among those that were found ends at its configuration
abbrev pub kept_place : Option ℕ → Option Opened → Place
kept_place None opened = begun place.Config opened
kept_place (Some n) opened = place.Config

abbrev pub keep_place : Hooked Keeping → Place
keep_place h = kept_place h.state.bad h.state.opened

-- the bad lines of a whole script, by the command's own step: without enrichers, as the program runs it, and for `keep` over a keeper
-- that has no records yet
abbrev pub found_by : Command → List (List ℕ) → List Moment → List Finding
found_by command.Replay = found command.Replay replay_step replay_place stage.Empty 1
found_by command.Grants = found command.Grants (with_enrichers grants_step) (λ h. begun place.Config h.state) (hooked None []) 1
found_by command.Report = found command.Report report_step (begun place.Facts) None 1
found_by command.Keep = found command.Keep (with_enrichers keep_step) keep_place (hooked (at None []) []) 1
found_by command.Serve = found command.Serve serve_step (begun place.Config) None 1

-- ---- what is printed

unfoldable pub finding_line : ℕ → List ℕ → List ℕ
finding_line n why = codes "line " ++ (decimal n ++ (codes ": " ++ (why ++ 10 ∷ [])))

abbrev pub report : List Finding → List ℕ
report [] = []
report (f ∷ fs) = finding_line f.number f.why ++ report fs

abbrev pub status_of : List Finding → Status
status_of [] = Done
status_of (f ∷ fs) = BadLine

-- all that is found is printed, and the status says whether anything is
abbrev pub outcome : List Finding → Output (List Finding)
outcome fs = record { text = report fs; status = status_of fs; state = fs; decided = [] }

-- what a check of the lines comes to, each read at its moment; None where the moments are too few or too many
unfoldable pub checked : Command → Script (List Finding)
checked command lines moments = if length lines == length moments then Some (outcome (found_by command lines moments)) else None
