-- Lines of `report` and their reasons.
use Rattle.std.proofs.Common.{◌≡◌, ℕ, Bool, true, false, List, [], ◌∷◌, Option, Some, None, option_and_then, option_map, Result, Ok, Err, refl, if◌then◌else◌}
use Rattle.std.specs.Result.{result_ok}
use Rattle.rg_base.specs.Listed.{listed}
use Rattle.rg_base.specs.declared.numbers.Moment.{Moment}
use Rattle.rg_json.specs.Reading.{reading}
use Rattle.rg_json.specs.declared.fault.Fault.{Fault}
use Rattle.rg_facts.specs.Sound.{sound}
use Rattle.rg_facts.specs.declared.facts.Facts.{Facts}
use Rattle.rg_facts_check.specs.Causes.{no_cause, unsound_causes}
use Rattle.rg_facts_check.specs.declared.unsound.Unsound.{Unsound as Unsoundness}
use Rattle.rg_acl.specs.Asks.{ask_of, ask_shape}
use Rattle.rg_acl.specs.declared.ask.ReportAsk.{ReportAsk}
use Rattle.rg_script.specs.Causes.{unsound_by}
use Rattle.rg_script.specs.declared.cause.Cause.{Cause}
use Rattle.rg_script.specs.declared.cause.Cause.TheVariants.{Json, OutOfPlace, Unsound}
use Rattle.rg_script.specs.declared.cause.Place.{Place}
use Rattle.rg_script.specs.declared.cause.Place.TheVariants as place
use Rattle.rg_script.specs.declared.line.Line.{Line}
use Rattle.rg_script.specs.declared.line.Line.TheVariants as line
use Rattle.rg_script.specs.Line.{line_read}
use Rattle.rg_run_script.specs.Follow.{Work}
use Rattle.rg_run_script.specs.Printed.{quiet}
use Rattle.rg_run_replay.specs.Replay.{published_facts}
use Rattle.rg_run_report.specs.Report.{State, ask_work, asked_in, facts_work, line_work, report_step, work_by}
use Rattle.rg_check.specs.declared.command.Command.TheVariants as command
use Rattle.rg_check.specs.declared.kind.LineKind.{LineKind}
use Rattle.rg_check.specs.declared.kind.LineKind.TheVariants as kind
use Rattle.rg_check.specs.Checking.{begun}
use Rattle.rg_check.specs.Own.{read_as}
use Rattle.rg_check.specs.Reasons.{kind_from, own_cause, own_kind, plain_cause, plain_kind, reason_from}
use Rattle.rg_check.proofs.Agreeing.{Agrees, AllAgree}

-- nothing more is known of the facts
abbrev pub IsAny : State → Type 0
IsAny s = Unit {0}

abbrev ReportAgrees : Place → Option LineKind → Option Cause → Option (Work State) → Type 0
ReportAgrees = Agrees (begun place.Facts) IsAny

facts_agree : (facts : Facts) (list : List Unsoundness) (b : Bool) → no_cause list ≡ b
    → ReportAgrees place.Start (Some kind.Facts) (unsound_by list) (option_map (λ f. quiet (Some f)) (if b then Some facts else None))
facts_agree facts [] true e = (refl, refl, tt)
facts_agree facts [] false e = cc
facts_agree facts (u ∷ us) true e = cc
facts_agree facts (u ∷ us) false e = (Unsound (listed (u ∷ us)), refl)

ask_agrees : (s : State) (r : Result ReportAsk Fault)
    → ReportAgrees (begun place.Facts s) (own_kind (read_as kind.Report r)) (own_cause (read_as kind.Report r) (begun place.Facts s)) (option_and_then (ask_work s) (result_ok r))
unfolding ask_work
ask_agrees None (Ok ask) = (OutOfPlace, refl)
ask_agrees None (Err fault) = (Json fault.path fault.kind, refl)
ask_agrees (Some facts) (Ok ask) = (refl, refl, tt)
ask_agrees (Some facts) (Err fault) = (Json fault.path fault.kind, refl)

module _ (decides : (facts : Facts) → no_cause (unsound_causes facts) ≡ sound facts) where
  line_agrees : (s : State) (read : Result Line Cause)
      → ReportAgrees (begun place.Facts s) (plain_kind read) (plain_cause command.Report (begun place.Facts s) read) (line_work s (result_ok read))
  unfolding facts_work published_facts
  line_agrees None (Ok line.Blank) = (refl, refl, tt)
  line_agrees None (Ok (line.Facts facts)) = facts_agree facts (unsound_causes facts) (sound facts) (decides facts)
  line_agrees None (Ok (line.Config c)) = (OutOfPlace, refl)
  line_agrees None (Ok (line.Admin ask)) = (OutOfPlace, refl)
  line_agrees None (Ok line.Refresh) = (OutOfPlace, refl)
  line_agrees None (Ok (line.Decide q)) = (OutOfPlace, refl)
  line_agrees None (Err cause) = (cause, refl)
  line_agrees (Some facts) (Ok line.Blank) = (refl, refl, tt)
  line_agrees (Some facts) (Ok (line.Facts f)) = (OutOfPlace, refl)
  line_agrees (Some facts) (Ok (line.Config c)) = (OutOfPlace, refl)
  line_agrees (Some facts) (Ok (line.Admin ask)) = (OutOfPlace, refl)
  line_agrees (Some facts) (Ok line.Refresh) = (OutOfPlace, refl)
  line_agrees (Some facts) (Ok (line.Decide q)) = (OutOfPlace, refl)
  line_agrees (Some facts) (Err cause) = (cause, refl)

  any_agrees : (s : State) (bytes : List ℕ) (m : Moment) (json : Option (List ℕ))
      → ReportAgrees (begun place.Facts s) (kind_from (option_map (λ json. read_as kind.Report (reading ask_shape (ask_of m) json)) json) (line_read bytes m))
      (reason_from command.Report (begun place.Facts s) (option_map (λ json. read_as kind.Report (reading ask_shape (ask_of m) json)) json) (line_read bytes m))
      (work_by s bytes m json)
  any_agrees s bytes m (Some json) = ask_agrees s (reading ask_shape (ask_of m) json)
  any_agrees s bytes m None = line_agrees s (line_read bytes m)

  pub reports_agree : AllAgree command.Report report_step (begun place.Facts) IsAny
  reports_agree s h bytes m = any_agrees s bytes m (asked_in bytes)
