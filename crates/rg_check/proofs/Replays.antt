-- Lines of `replay` and their reasons.
use Rattle.std.proofs.Common.{◌≡◌, ◌-◌, ◌<◌, ◌∷◌, [], arith, ℕ, suc, zero, Bool, true, false, List, length, slice_get, Option, Some, None, option_map, is_none, Result, Ok, Err, refl, sym, subst, length-append, if◌then◌else◌}
use Rattle.std.specs.Result.{result_ok}
use Rattle.rg_base.specs.Listed.{listed}
use Rattle.rg_base.specs.Texts.{all_distinct}
use Rattle.rg_defs.specs.declared.service_def.ServiceDef.{ServiceDef}
use Rattle.rg_facts.specs.Sound.{sound}
use Rattle.rg_facts.specs.declared.decision.Decision.{Decision}
use Rattle.rg_facts.specs.declared.facts.Facts.{Facts}
use Rattle.rg_zone_rules.specs.Overlap.{first_overlap, zones_overlap}
use Rattle.rg_zone_rules.specs.declared.row.ZoneRow.{ZoneRow}
use Rattle.rg_turn.specs.History.{state_at}
use Rattle.rg_turn.specs.declared.rule.Entry.{Entry}
use Rattle.rg_cmd.specs.declared.ask.AdminReply.{AdminReply}
use Rattle.rg_cmd.specs.declared.ask.Ask.{Ask}
use Rattle.rg_cmd.specs.declared.config.Config.{Config}
use Rattle.rg_cmd.specs.declared.rule.Rule.{Rule}
use Rattle.rg_admin_laws.specs.Logs.{Administration}
use Rattle.rg_admin_laws.specs.Starts.{IsStart}
use Rattle.rg_admin_laws.specs.Steps.{step}
use Rattle.rg_admin_laws.specs.Views.{view}
use Rattle.rg_admin.specs.Starting.{start_fault, started}
use Rattle.rg_publish.specs.Passes.{decision_of}
use Rattle.rg_publish.specs.Publications.{publication}
use Rattle.rg_publish.specs.declared.history.Publication.{Publication}
use Rattle.rg_policy.specs.declared.request.AccessRequest.{AccessRequest}
use Rattle.rg_run_replay.specs.Running.{Running, newest, opened_unless, refresh_publishes, running, with_next}
use Rattle.rg_script.specs.Causes.{unsound_by}
use Rattle.rg_script.specs.declared.cause.Cause.{Cause}
use Rattle.rg_script.specs.declared.cause.Cause.TheVariants.{OutOfPlace, Refused, Unsound}
use Rattle.rg_script.specs.declared.line.Line.{Line}
use Rattle.rg_script.specs.declared.line.Line.TheVariants as line
use Rattle.rg_facts_check.specs.Causes.{no_cause, unsound_causes}
use Rattle.rg_facts_check.specs.declared.unsound.Unsound.{Unsound as Unsoundness}
use Rattle.rg_run_replay.specs.declared.replay.Stage.TheVariants as state
use Rattle.rg_hook.specs.Enriching.{EnricherState}
use Rattle.rg_run_script.specs.Follow.{Work}
use Rattle.rg_run_script.specs.Hooked.{Hooked, carrying, judging, with_enrichers}
use Rattle.rg_run_replay.specs.Replay.{State, admin_work, config_work, decide_work, facts_work, judge_work, line_work, line_work_with, published_facts, refresh_work, refreshed_from, replay_step, replay_step_with}
use Rattle.rg_run_script.specs.Printed.{deciding, quiet}
use Rattle.rg_check.proofs.Starts.{starts}
use Rattle.rg_script.specs.Line.{line_read}
use Rattle.rg_script.specs.declared.cause.Place.{Place}
use Rattle.rg_script.specs.declared.cause.Place.TheVariants as place
use Rattle.rg_check.specs.declared.command.Command.TheVariants as command
use Rattle.rg_check.specs.declared.kind.LineKind.{LineKind}
use Rattle.rg_check.specs.declared.kind.LineKind.TheVariants as kind
use Rattle.rg_check.specs.Checking.{replay_place}
use Rattle.rg_check.specs.Reasons.{plain_cause, plain_kind}
use Rattle.rg_check.proofs.Agreeing.{Agrees, AllAgree}

-- an administration that is running has published
abbrev pub HasPublished : State → Type 0
HasPublished state.Empty = Unit {0}
HasPublished (state.Facts facts) = Unit {0}
HasPublished (state.Config r) = 0 < length r.published

-- ---- publications

item_at : {X : Type 0} (xs : List X) (n : ℕ) → n < length xs → (x : X) × (slice_get xs n ≡ Some x)
item_at [] n h = absurd (omega arith)
item_at (x ∷ xs) zero h = (x, refl)
item_at (x ∷ xs) (suc n) h = item_at xs n (omega arith)

has_newest : (r : Running) → 0 < length r.published → (p : Publication) × (newest r ≡ Some p)
has_newest r h = item_at r.published (length r.published - 1) (omega arith)

still_published : (list : List Publication) (next : Option Publication) → 0 < length list → 0 < length (with_next list next)
still_published list None h = h
still_published list (Some p) h = omega (arith, length-append list (p ∷ []))

-- ---- one line

abbrev ReplayAgrees : Place → Option LineKind → Option Cause → Option (Work State) → Type 0
ReplayAgrees = Agrees replay_place HasPublished

refresh_agrees : (r : Running) (o : Option Publication) (p : Publication) → o ≡ Some p → 0 < length r.published
    → ReplayAgrees place.Config (Some kind.Refresh) None (option_map (refreshed_from r) o)
refresh_agrees r None p e h = cc
refresh_agrees r (Some q) p e h = (refl, refl, still_published r.published (refresh_publishes r q) h)

decide_agrees : (r : Running) (q : AccessRequest) (o : Option Publication) (p : Publication) → o ≡ Some p → 0 < length r.published
    → ReplayAgrees place.Config (Some kind.Decide) None (option_map (deciding (state.Config r) r.plugin q) (option_map (λ p. decision_of p q) o))
decide_agrees r q None p e h = cc
decide_agrees r q (Some b) p e h = (refl, refl, h)

facts_agree : (facts : Facts) (list : List Unsoundness) (b : Bool) → no_cause list ≡ b
    → ReplayAgrees place.Start (Some kind.Facts) (unsound_by list) (option_map (λ f. quiet (state.Facts f)) (if b then Some facts else None))
facts_agree facts [] true e = (refl, refl, tt)
facts_agree facts [] false e = cc
facts_agree facts (u ∷ us) true e = cc
facts_agree facts (u ∷ us) false e = (Unsound (listed (u ∷ us)), refl)

-- ---- one line with enrichers

abbrev pub enriched_place : Hooked State → Place
enriched_place h = replay_place h.state

abbrev pub HasPublishedSo : Hooked State → Type 0
HasPublishedSo h = HasPublished h.state

abbrev EnrichedAgrees : Place → Option LineKind → Option Cause → Option (Work (Hooked State)) → Type 0
EnrichedAgrees = Agrees enriched_place HasPublishedSo

carrying_agrees : (place : Place) (kind : Option LineKind) (reason : Option Cause) (es : List EnricherState) (o : Option (Work State))
    → ReplayAgrees place kind reason o → EnrichedAgrees place kind reason (option_map (carrying es) o)
carrying_agrees place kind reason es None a = a
carrying_agrees place kind reason es (Some w) a = a

newest_agrees : (r : Running) (es : List EnricherState) (q : AccessRequest) (decide : Publication → Decision) (o : Option Publication) (p : Publication) → o ≡ Some p
    → 0 < length r.published → EnrichedAgrees place.Config (Some kind.Decide) None (option_map (judging (state.Config r) r.plugin es q) (option_map decide o))
newest_agrees r es q decide None p e h = cc
newest_agrees r es q decide (Some b) p e h = (refl, refl, h)

judge_agrees : (s : State) (es : List EnricherState) (q : AccessRequest) → HasPublished s
    → EnrichedAgrees (replay_place s) (Some kind.Decide) (plain_cause command.Replay (replay_place s) (Ok (line.Decide q))) (judge_work s es q)
unfolding judge_work
judge_agrees state.Empty es q h = (OutOfPlace, refl)
judge_agrees (state.Facts facts) es q h = (refl, refl, tt)
judge_agrees (state.Config r) es q h = let p = has_newest r h in newest_agrees r es q _ (newest r) p.0 p.1 h

module _ (by_pairs : (service : List ℕ) (def : ServiceDef) (zones : List ZoneRow) → is_none (first_overlap service def zones) ≡ all_distinct (zones_overlap service def) zones)
    (viewed : (start : Administration) (h : List (Entry Ask AdminReply)) → IsStart start → (k : ℕ) → (f : Facts) × (view (state_at step start h k) start.state.plugin ≡ Some f))
    (decides : (facts : Facts) → no_cause (unsound_causes facts) ≡ sound facts) where
  config_agrees : (c : Config) (o : Option Rule) → start_fault c ≡ o
      → ReplayAgrees place.Start (Some kind.Config) (option_map Refused o) (option_map (λ r. quiet (state.Config r)) (opened_unless o c))
  config_agrees c (Some rule) e = (Refused rule, refl)
  config_agrees c None e =
      let a : Administration = started c in
      let seen = viewed a [] (starts by_pairs c e) 0 in
      subst (λ (o : Option Facts). ReplayAgrees place.Start (Some kind.Config) None
      (option_map (λ r. quiet (state.Config r)) (option_map (λ (facts : Facts). running a a.state.plugin (publication 1 0 facts ∷ [])) o)))
      (sym seen.1) (refl, refl, omega arith)

  agrees : (s : State) → HasPublished s → (read : Result Line Cause)
      → ReplayAgrees (replay_place s) (plain_kind read) (plain_cause command.Replay (replay_place s) read) (line_work s (result_ok read))
  unfolding facts_work config_work admin_work refresh_work decide_work published_facts
  agrees state.Empty h (Ok line.Blank) = (refl, refl, tt)
  agrees state.Empty h (Ok (line.Facts facts)) = facts_agree facts (unsound_causes facts) (sound facts) (decides facts)
  agrees state.Empty h (Ok (line.Config c)) = config_agrees c (start_fault c) refl
  agrees state.Empty h (Ok (line.Admin ask)) = (OutOfPlace, refl)
  agrees state.Empty h (Ok line.Refresh) = (OutOfPlace, refl)
  agrees state.Empty h (Ok (line.Decide q)) = (OutOfPlace, refl)
  agrees state.Empty h (Err cause) = (cause, refl)
  agrees (state.Facts facts) h (Ok line.Blank) = (refl, refl, tt)
  agrees (state.Facts facts) h (Ok (line.Facts f)) = (OutOfPlace, refl)
  agrees (state.Facts facts) h (Ok (line.Config c)) = (OutOfPlace, refl)
  agrees (state.Facts facts) h (Ok (line.Admin ask)) = (OutOfPlace, refl)
  agrees (state.Facts facts) h (Ok line.Refresh) = (OutOfPlace, refl)
  agrees (state.Facts facts) h (Ok (line.Decide q)) = (refl, refl, tt)
  agrees (state.Facts facts) h (Err cause) = (cause, refl)
  agrees (state.Config r) h (Ok line.Blank) = (refl, refl, h)
  agrees (state.Config r) h (Ok (line.Facts f)) = (OutOfPlace, refl)
  agrees (state.Config r) h (Ok (line.Config c)) = (OutOfPlace, refl)
  agrees (state.Config r) h (Ok (line.Admin ask)) = (refl, refl, h)
  agrees (state.Config r) h (Ok line.Refresh) = let p = has_newest r h in refresh_agrees r (newest r) p.0 p.1 h
  agrees (state.Config r) h (Ok (line.Decide q)) = let p = has_newest r h in decide_agrees r q (newest r) p.0 p.1 h
  agrees (state.Config r) h (Err cause) = (cause, refl)

  pub replays_agree : AllAgree command.Replay replay_step replay_place HasPublished
  replays_agree s h line m = agrees s h (line_read line m)

  agrees_with : (s : State) (es : List EnricherState) → HasPublished s → (read : Result Line Cause)
      → EnrichedAgrees (replay_place s) (plain_kind read) (plain_cause command.Replay (replay_place s) read) (line_work_with s es (result_ok read))
  agrees_with s es h (Ok (line.Decide q)) = judge_agrees s es q h
  agrees_with s es h (Ok line.Blank) = carrying_agrees _ _ _ es (line_work s (Some line.Blank)) (agrees s h (Ok line.Blank))
  agrees_with s es h (Ok (line.Facts facts)) = carrying_agrees _ _ _ es (line_work s (Some (line.Facts facts))) (agrees s h (Ok (line.Facts facts)))
  agrees_with s es h (Ok (line.Config c)) = carrying_agrees _ _ _ es (line_work s (Some (line.Config c))) (agrees s h (Ok (line.Config c)))
  agrees_with s es h (Ok (line.Admin ask)) = carrying_agrees _ _ _ es (line_work s (Some (line.Admin ask))) (agrees s h (Ok (line.Admin ask)))
  agrees_with s es h (Ok line.Refresh) = carrying_agrees _ _ _ es (line_work s (Some line.Refresh)) (agrees s h (Ok line.Refresh))
  agrees_with s es h (Err cause) = carrying_agrees (replay_place s) None (Some cause) es (line_work s None) (agrees s h (Err cause))

  pub enriched_replays_agree : AllAgree command.Replay (with_enrichers replay_step_with) enriched_place HasPublishedSo
  enriched_replays_agree h has line m = agrees_with h.state h.enrichers has (line_read line m)
