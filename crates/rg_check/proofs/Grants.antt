-- Lines of `grants` and their reasons.
use Rattle.std.proofs.Common.{◌≡◌, ℕ, List, Option, Some, None, option_and_then, option_map, is_none, Result, Ok, Err, refl}
use Rattle.std.specs.Result.{result_ok}
use Rattle.rg_base.specs.Texts.{all_distinct}
use Rattle.rg_base.specs.declared.numbers.Moment.{Moment}
use Rattle.rg_json.specs.Reading.{reading}
use Rattle.rg_json.specs.declared.fault.Fault.{Fault}
use Rattle.rg_policy.specs.declared.request.AccessRequest.{AccessRequest}
use Rattle.rg_defs.specs.declared.service_def.ServiceDef.{ServiceDef}
use Rattle.rg_zone_rules.specs.Overlap.{first_overlap, zones_overlap}
use Rattle.rg_zone_rules.specs.declared.row.ZoneRow.{ZoneRow}
use Rattle.rg_facts.specs.declared.decision.Decision.{Decision}
use Rattle.rg_facts.specs.declared.facts.Facts.{Facts}
use Rattle.rg_cmd.specs.declared.ask.AdminReply.{AdminReply}
use Rattle.rg_cmd.specs.declared.ask.Ask.{Ask}
use Rattle.rg_cmd.specs.declared.config.Config.{Config}
use Rattle.rg_cmd.specs.declared.rule.Rule.{Rule}
use Rattle.rg_turn.specs.History.{state_at}
use Rattle.rg_turn.specs.declared.rule.Entry.{Entry}
use Rattle.rg_admin_laws.specs.Logs.{Administration}
use Rattle.rg_admin_laws.specs.Starts.{IsStart}
use Rattle.rg_admin_laws.specs.Steps.{step}
use Rattle.rg_admin_laws.specs.Views.{view}
use Rattle.rg_admin.specs.Starting.{start_fault, started, started_unless}
use Rattle.rg_grant.specs.Planning.{planned}
use Rattle.rg_grant.specs.Rows.{grant_shape, row_of}
use Rattle.rg_grant.specs.Steps.{granted}
use Rattle.rg_grant.specs.declared.ask.GrantAsk.{GrantAsk}
use Rattle.rg_grant.specs.declared.ask.GrantAsk.TheVariants.{Plain}
use Rattle.rg_grant.specs.declared.row.GrantRow.{GrantRow}
use Rattle.rg_hook.specs.Enriching.{EnricherState}
use Rattle.rg_script.specs.declared.cause.Cause.{Cause}
use Rattle.rg_script.specs.declared.cause.Cause.TheVariants.{Json, NoWord, OutOfPlace, Refused}
use Rattle.rg_script.specs.declared.cause.Place.{Place}
use Rattle.rg_script.specs.declared.cause.Place.TheVariants as place
use Rattle.rg_script.specs.declared.line.Line.{Line}
use Rattle.rg_script.specs.declared.line.Line.TheVariants as line
use Rattle.rg_script.specs.Line.{actor_of, line_read}
use Rattle.rg_script.specs.Words.{behind_space, front_word}
use Rattle.rg_run_script.specs.Follow.{Work}
use Rattle.rg_run_script.specs.Hooked.{Hooked, carrying, judging, with_enrichers}
use Rattle.rg_run_script.specs.Printed.{quiet}
use Rattle.rg_run_grants.specs.Grants.{State, ask_work, grants_step, judge_work, line_work, start_work}
use Rattle.rg_run_grants.specs.Lines.{asked, change_line as line_by, change_of, plain_line, row_read, worded}
use Rattle.rg_run_grants.specs.declared.line.Change.{Change}
use Rattle.rg_run_grants.specs.declared.line.GrantLine.TheVariants.{Ask as Asks}
use Rattle.rg_check.specs.declared.command.Command.TheVariants as command
use Rattle.rg_check.specs.declared.kind.LineKind.{LineKind}
use Rattle.rg_check.specs.declared.kind.LineKind.TheVariants as kind
use Rattle.rg_check.specs.declared.own.OwnLine.TheVariants.{Read}
use Rattle.rg_check.specs.Checking.{begun}
use Rattle.rg_check.specs.Own.{change_line, kind_of_change, read_as, row_line, worded_change}
use Rattle.rg_check.specs.Reasons.{kind_from, own_cause, own_kind, plain_cause, plain_kind, reason_from}
use Rattle.rg_check.proofs.Agreeing.{Agrees, AllAgree}
use Rattle.rg_check.proofs.Reached.{IsReached, reached_first, reached_more, sees}
use Rattle.rg_check.proofs.Starts.{starts}
use Rattle.rg_check.proofs.Walks.{none_some}

-- the administration was started, and asked since
abbrev IsSince : State → Type 0
IsSince None = Unit {0}
IsSince (Some a) = IsReached a

abbrev pub HasStarted : Hooked State → Type 0
HasStarted h = IsSince h.state

abbrev pub grants_place : Hooked State → Place
grants_place h = begun place.Config h.state

abbrev GrantsAgrees : Place → Option LineKind → Option Cause → Option (Work (Hooked State)) → Type 0
GrantsAgrees = Agrees grants_place HasStarted

-- ---- what is asked

since_granted : (a : Administration) (ask : GrantAsk) → IsReached a → IsReached (granted a ask).0
unfolding granted
since_granted a ask r = reached_more a r (planned a.state ask)

asks_agree : (s : State) (es : List EnricherState) (ask : GrantAsk) (own : LineKind) → IsSince s
    → GrantsAgrees (begun place.Config s) (Some own) (own_cause (Read own) (begun place.Config s)) (option_map (carrying es) (ask_work s ask))
unfolding ask_work
asks_agree None es ask own is = (OutOfPlace, refl)
asks_agree (Some a) es ask own is = (refl, refl, since_granted a ask is)

rows_agree : (s : State) (es : List EnricherState) (change : Change) (actor : List ℕ) (r : Result GrantRow Fault) → IsSince s
    → GrantsAgrees (begun place.Config s) (own_kind (read_as (kind_of_change change) r)) (own_cause (read_as (kind_of_change change) r) (begun place.Config s))
    (line_work s es (option_map (λ row. Asks (asked change actor row)) (result_ok r)))
rows_agree s es change actor (Ok row) is = asks_agree s es (asked change actor row) (kind_of_change change) is
rows_agree None es change actor (Err fault) is = (Json fault.path fault.kind, refl)
rows_agree (Some a) es change actor (Err fault) is = (Json fault.path fault.kind, refl)

actors_agree : (s : State) (es : List EnricherState) (change : Change) (actor json : Option (List ℕ)) → IsSince s
    → GrantsAgrees (begun place.Config s) (own_kind (row_line (kind_of_change change) actor json)) (own_cause (row_line (kind_of_change change) actor json) (begun place.Config s))
    (line_work s es (row_read change actor json))
actors_agree s es change (Some actor) (Some json) is = rows_agree s es change actor (reading grant_shape row_of json) is
actors_agree None es change (Some actor) None is = (NoWord, refl)
actors_agree None es change None json is = (NoWord, refl)
actors_agree (Some a) es change (Some actor) None is = (NoWord, refl)
actors_agree (Some a) es change None json is = (NoWord, refl)

changes_agree : (s : State) (es : List EnricherState) (change : Change) (rest : Option (List ℕ)) → IsSince s
    → GrantsAgrees (begun place.Config s) (own_kind (change_line (kind_of_change change) rest)) (own_cause (change_line (kind_of_change change) rest) (begun place.Config s))
    (line_work s es (line_by change rest))
changes_agree s es change (Some rest) is = actors_agree s es change (actor_of (front_word rest)) (behind_space rest) is
changes_agree None es change None is = (NoWord, refl)
changes_agree (Some a) es change None is = (NoWord, refl)

-- ---- other lines

judge_agrees : (a : Administration) (es : List EnricherState) (q : AccessRequest) (decide : Facts → Decision) (o : Option Facts) (f : Facts) → o ≡ Some f → IsReached a
    → GrantsAgrees place.Config (Some kind.Decide) None (option_map (judging (Some a) a.state.plugin es q) (option_map decide o))
judge_agrees a es q decide None f e r = none_some e
judge_agrees a es q decide (Some g) f e r = (refl, refl, r)

module _ (by_pairs : (service : List ℕ) (def : ServiceDef) (zones : List ZoneRow) → is_none (first_overlap service def zones) ≡ all_distinct (zones_overlap service def) zones)
    (viewed : (start : Administration) (h : List (Entry Ask AdminReply)) → IsStart start → (k : ℕ) → (f : Facts) × (view (state_at step start h k) start.state.plugin ≡ Some f)) where
  config_agrees : (c : Config) (es : List EnricherState) (o : Option Rule) → start_fault c ≡ o
      → GrantsAgrees place.Start (Some kind.Config) (option_map Refused o) (option_map (carrying es) (option_map (λ a. quiet (Some a)) (started_unless o c)))
  config_agrees c es (Some rule) e = (Refused rule, refl)
  config_agrees c es None e = (refl, refl, reached_first (started c) (starts by_pairs c e))

  line_agrees : (s : State) (es : List EnricherState) (read : Result Line Cause) → IsSince s
      → GrantsAgrees (begun place.Config s) (plain_kind read) (plain_cause command.Grants (begun place.Config s) read) (line_work s es (option_and_then plain_line (result_ok read)))
  unfolding start_work ask_work judge_work
  line_agrees None es (Ok line.Blank) is = (refl, refl, tt)
  line_agrees None es (Ok (line.Facts facts)) is = (OutOfPlace, refl)
  line_agrees None es (Ok (line.Config c)) is = config_agrees c es (start_fault c) refl
  line_agrees None es (Ok (line.Admin ask)) is = (OutOfPlace, refl)
  line_agrees None es (Ok line.Refresh) is = (OutOfPlace, refl)
  line_agrees None es (Ok (line.Decide q)) is = (OutOfPlace, refl)
  line_agrees None es (Err cause) is = (cause, refl)
  line_agrees (Some a) es (Ok line.Blank) is = (refl, refl, is)
  line_agrees (Some a) es (Ok (line.Facts facts)) is = (OutOfPlace, refl)
  line_agrees (Some a) es (Ok (line.Config c)) is = (OutOfPlace, refl)
  line_agrees (Some a) es (Ok (line.Admin ask)) is = (refl, refl, since_granted a (Plain ask) is)
  line_agrees (Some a) es (Ok line.Refresh) is = (OutOfPlace, refl)
  line_agrees (Some a) es (Ok (line.Decide q)) is = let seen = sees viewed a is in judge_agrees a es q _ (view a a.state.plugin) seen.0 seen.1 is
  line_agrees (Some a) es (Err cause) is = (cause, refl)

  any_agrees : (s : State) (es : List EnricherState) (bytes : List ℕ) (m : Moment) (change : Option Change) → IsSince s
      → GrantsAgrees (begun place.Config s) (kind_from (worded_change bytes (option_map kind_of_change change)) (line_read bytes m))
      (reason_from command.Grants (begun place.Config s) (worded_change bytes (option_map kind_of_change change)) (line_read bytes m))
      (line_work s es (worded change bytes m))
  any_agrees s es bytes m (Some change) is = changes_agree s es change (behind_space bytes) is
  any_agrees s es bytes m None is = line_agrees s es (line_read bytes m) is

  pub grants_agree : AllAgree command.Grants (with_enrichers grants_step) grants_place HasStarted
  grants_agree h is bytes m = any_agrees h.state h.enrichers bytes m (change_of (front_word bytes)) is
