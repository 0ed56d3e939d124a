-- Lines of `keep` and their reasons.
use Rattle.std.proofs.Common.{◌≡◌, ◌⊎◌, ◌+◌, ◌∙◌, ◌++◌, ℕ, List, [], ◌∷◌, inl, inr, length, Bool, true, false, Option, Some, None, codes, option_and_then, option_map, is_none, Result, Ok, Err, refl, ap, sym, subst, if◌then◌else◌}
use Rattle.std.specs.Option.{option_map_or}
use Rattle.std.specs.Result.{result_ok}
use Rattle.std.specs.Str.{bytes_eq}
use Rattle.rg_base.specs.Texts.{all_distinct}
use Rattle.rg_base.specs.declared.numbers.Moment.{Moment}
use Rattle.rg_json.specs.declared.fault.Fault.{Fault}
use Rattle.rg_policy.specs.declared.request.AccessRequest.{AccessRequest}
use Rattle.rg_defs.specs.declared.service_def.ServiceDef.{ServiceDef}
use Rattle.rg_zone_rules.specs.Overlap.{first_overlap, zones_overlap}
use Rattle.rg_zone_rules.specs.declared.row.ZoneRow.{ZoneRow}
use Rattle.rg_facts.specs.declared.decision.Decision.{Decision}
use Rattle.rg_facts.specs.declared.facts.Facts.{Facts}
use Rattle.rg_cmd.specs.declared.ask.AdminCommand.{AdminCommand}
use Rattle.rg_cmd.specs.declared.ask.AdminReply.{AdminReply}
use Rattle.rg_cmd.specs.declared.ask.Ask.{Ask}
use Rattle.rg_cmd.specs.declared.config.Config.{Config}
use Rattle.rg_cmd.specs.declared.rule.Rule.{Rule}
use Rattle.rg_cmd_wire.specs.Reading.{command_reading}
use Rattle.rg_turn.specs.History.{state_at}
use Rattle.rg_turn.specs.declared.rule.Entry.{Entry}
use Rattle.rg_admin_laws.specs.Logs.{Administration}
use Rattle.rg_admin_laws.specs.Starts.{IsStart}
use Rattle.rg_admin_laws.specs.Steps.{step}
use Rattle.rg_admin_laws.specs.Views.{view}
use Rattle.rg_admin.specs.Starting.{start_fault, started}
use Rattle.rg_ask_wire.specs.Reading.{ask_reading}
use Rattle.rg_hook.specs.Enriching.{EnricherState}
use Rattle.rg_keep.specs.Keeping.{is_past}
use Rattle.rg_keep.specs.Replay.{after_entries, after_entry, after_reading, first_bad, replayed, stepped}
use Rattle.rg_script.specs.declared.cause.Cause.{Cause}
use Rattle.rg_script.specs.declared.cause.Cause.TheVariants.{Json, NoWord, OutOfPlace, Refused}
use Rattle.rg_script.specs.declared.cause.Place.{Place}
use Rattle.rg_script.specs.declared.cause.Place.TheVariants as place
use Rattle.rg_script.specs.declared.line.Line.{Line}
use Rattle.rg_script.specs.declared.line.Line.TheVariants as line
use Rattle.rg_script.specs.Line.{actor_of, line_read}
use Rattle.rg_script.specs.Words.{behind_space, front_word}
use Rattle.rg_run_script.specs.Follow.{Decided, Output, Work, before, ends_bad, worked}
use Rattle.rg_run_script.specs.Hooked.{Hooked, carrying, judging, with_enrichers}
use Rattle.rg_run_script.specs.Printed.{quiet}
use Rattle.rg_run_keep.specs.Keeps.{Opened, State, ask_work, at, config_work, full_line, judge_work, keep_step, line_work, opened_by, opened_unless, prints, reopen_work, replied, unless_bad}
use Rattle.rg_run_keep.specs.Lines.{admin_line, ask_read, keep_line_of, plain_line, worded}
use Rattle.rg_run_keep.specs.declared.line.KeepLine.TheVariants.{Ask as Asks, Reopen}
use Rattle.rg_check.specs.declared.command.Command.TheVariants as command
use Rattle.rg_check.specs.declared.kind.LineKind.{LineKind}
use Rattle.rg_check.specs.declared.kind.LineKind.TheVariants as kind
use Rattle.rg_check.specs.declared.own.OwnLine.TheVariants.{Read}
use Rattle.rg_check.specs.Causes.{cause_text}
use Rattle.rg_check.specs.Checking.{begun, finding, keep_place, kept_place}
use Rattle.rg_check.specs.Own.{admin_line as own_admin, command_line, keep_line, read_as}
use Rattle.rg_check.specs.Kinds.{place_after}
use Rattle.rg_check.specs.Naming.{EndsAtFirst}
use Rattle.rg_check.specs.Reasons.{kind_at, kind_from, own_cause, own_kind, plain_cause, plain_kind, reason_at, reason_from}
use Rattle.rg_check.specs.Walking.{found_from}
use Rattle.rg_check.proofs.Agreeing.{Agrees, AllAgree}
use Rattle.rg_check.proofs.Naming.{ends_here, goes_on}
use Rattle.rg_check.proofs.Reached.{IsReached, reached_first, reached_more, sees}
use Rattle.rg_check.proofs.Starts.{starts}
use Rattle.rg_check.proofs.Walks.{none_some, some_same}

-- ---- what is known of a state, where this is known of the records that were found

module _ (Known : List (List ℕ) → Type 0) where
  -- the configuration breaks no rule; the administration was started, and asked since
  abbrev IsHeld : Option Opened → List (List ℕ) → Type 0
  IsHeld None records = Known records
  IsHeld (Some o) records = (start_fault o.config ≡ None) × IsReached o.admin

  -- and no record is bad
  abbrev pub IsKeeping : Hooked State → Type 0
  IsKeeping h = (h.state.bad ≡ None) × IsHeld h.state.opened h.state.records

  -- a record that was found is bad
  pub record IsSpoiled (h : Hooked State) : Type 0 where
    pub config : Config
    pub records : List (List ℕ)
    pub place : ℕ
    pub known : Known records
    pub first : first_bad config records ≡ Some place
    pub bad : h.state.bad ≡ Some place

  abbrev pub GoesOn : Hooked State → Type 0
  GoesOn h = IsKeeping h ⊎ IsSpoiled h

  abbrev KeepAgrees : Place → Option LineKind → Option Cause → Option (Work (Hooked State)) → Type 0
  KeepAgrees = Agrees keep_place GoesOn

-- ---- what steps lead to

since_stepped : (a : Administration) (ask : Ask) → IsReached a → IsReached (stepped a ask).0
unfolding stepped
since_stepped a ask r = reached_more a r ask

since_reading : (a : Administration) (r : Result Ask Fault) → IsReached a → IsReached (after_reading a r)
since_reading a (Ok ask) r = since_stepped a ask r
since_reading a (Err fault) r = r

since_entry : (a : Administration) (entry : List ℕ) → IsReached a → IsReached (after_entry a entry)
unfolding after_entry
since_entry a entry r = since_reading a (ask_reading entry) r

since_entries : (a : Administration) (entries : List (List ℕ)) → IsReached a → IsReached (after_entries a entries)
since_entries a [] r = r
since_entries a (entry ∷ entries) r = since_entries (after_entry a entry) entries (since_entry a entry r)

none_bad : (c : Config) → first_bad c [] ≡ None
unfolding first_bad
none_bad c = refl

-- ---- lines

module _ (Known : List (List ℕ) → Type 0) where
  past_agrees : (o : Opened) (records : List (List ℕ)) (es : List EnricherState) (ask : Ask) (past : Bool) → IsHeld Known (Some o) records
      → KeepAgrees Known place.Config (Some kind.Admin) None (Some (carrying es (if past then prints full_line (at (Some o) records) else replied o records ask)))
  past_agrees o records es ask true is = (refl, refl, inl (refl, is))
  past_agrees o records es ask false is = (refl, refl, inl (refl, (is.0, since_stepped o.admin ask is.1)))

  asks_agree : (o : Option Opened) (records : List (List ℕ)) (es : List EnricherState) (ask : Ask) → IsHeld Known o records
      → KeepAgrees Known (begun place.Config o) (Some kind.Admin) (own_cause (Read kind.Admin) (begun place.Config o)) (option_map (carrying es) (ask_work o records ask))
  unfolding ask_work
  asks_agree None records es ask is = (OutOfPlace, refl)
  asks_agree (Some o) records es ask is = past_agrees o records es ask (is_past (length records) ask) is

  commands_agree : (o : Option Opened) (records : List (List ℕ)) (es : List EnricherState) (actor : List ℕ) (r : Result AdminCommand Fault) → IsHeld Known o records
      → KeepAgrees Known (begun place.Config o) (own_kind (read_as kind.Admin r)) (own_cause (read_as kind.Admin r) (begun place.Config o))
      (line_work o records es (option_map (λ command. Asks (record { actor = actor; command = command })) (result_ok r)))
  commands_agree o records es actor (Ok command) is = asks_agree o records es (record { actor = actor; command = command }) is
  commands_agree o records es actor (Err fault) is = (Json fault.path fault.kind, refl)

  actors_agree : (o : Option Opened) (records : List (List ℕ)) (es : List EnricherState) (actor json : Option (List ℕ)) → IsHeld Known o records
      → KeepAgrees Known (begun place.Config o) (own_kind (command_line actor json)) (own_cause (command_line actor json) (begun place.Config o))
      (line_work o records es (ask_read actor json))
  actors_agree o records es (Some actor) (Some json) is = commands_agree o records es actor (command_reading json) is
  actors_agree o records es (Some actor) None is = (NoWord, refl)
  actors_agree o records es None json is = (NoWord, refl)

  admins_agree : (o : Option Opened) (records : List (List ℕ)) (es : List EnricherState) (rest : Option (List ℕ)) → IsHeld Known o records
      → KeepAgrees Known (begun place.Config o) (own_kind (own_admin rest)) (own_cause (own_admin rest) (begun place.Config o)) (line_work o records es (admin_line rest))
  admins_agree o records es (Some rest) is = actors_agree o records es (actor_of (front_word rest)) (behind_space rest) is
  admins_agree o records es None is = (NoWord, refl)

  judge_agrees : (o : Opened) (records : List (List ℕ)) (es : List EnricherState) (q : AccessRequest) (decide : Facts → Decision) (seen : Option Facts) (f : Facts) → seen ≡ Some f
      → IsHeld Known (Some o) records → KeepAgrees Known place.Config (Some kind.Decide) None (option_map (judging (at (Some o) records) o.admin.state.plugin es q) (option_map decide seen))
  judge_agrees o records es q decide None f e is = none_some e
  judge_agrees o records es q decide (Some g) f e is = (refl, refl, inl (refl, is))

  module _ (by_pairs : (service : List ℕ) (def : ServiceDef) (zones : List ZoneRow) → is_none (first_overlap service def zones) ≡ all_distinct (zones_overlap service def) zones)
      (viewed : (start : Administration) (h : List (Entry Ask AdminReply)) → IsStart start → (k : ℕ) → (f : Facts) × (view (state_at step start h k) start.state.plugin ≡ Some f)) where
    since_replayed : (c : Config) (records : List (List ℕ)) → start_fault c ≡ None → IsReached (replayed c records)
    unfolding replayed
    since_replayed c records e = since_entries (started c) records (reached_first (started c) (starts by_pairs c e))

    reopens_agree : (o : Option Opened) (records : List (List ℕ)) (es : List EnricherState) → IsHeld Known o records
        → KeepAgrees Known (begun place.Config o) (Some kind.Reopen) (own_cause (Read kind.Reopen) (begun place.Config o)) (option_map (carrying es) (reopen_work o records))
    unfolding reopen_work
    reopens_agree None records es is = (OutOfPlace, refl)
    reopens_agree (Some o) records es is = (refl, refl, inl (refl, (is.0, since_replayed o.config records is.0)))

    opens_agree : (c : Config) (records : List (List ℕ)) (es : List EnricherState) → Known records → start_fault c ≡ None → (bad : Option ℕ) → first_bad c records ≡ bad
        → KeepAgrees Known place.Start (Some kind.Config) None (Some (carrying es (quiet (opened_by c records bad))))
    opens_agree c records es known e None first = (refl, refl, inl (refl, (e, since_replayed c records e)))
    opens_agree c records es known e (Some n) first =
        (refl, refl, inr (record { config = c; records = records; place = n; known = known; first = first; bad = refl }))

    config_agrees : (c : Config) (records : List (List ℕ)) (es : List EnricherState) → Known records → (o : Option Rule) → start_fault c ≡ o
        → KeepAgrees Known place.Start (Some kind.Config) (option_map Refused o) (option_map (carrying es) (opened_unless o c records))
    config_agrees c records es known (Some rule) e = (Refused rule, refl)
    config_agrees c records es known None e = opens_agree c records es known e (first_bad c records) refl

    line_agrees : (o : Option Opened) (records : List (List ℕ)) (es : List EnricherState) (read : Result Line Cause) → IsHeld Known o records
        → KeepAgrees Known (begun place.Config o) (plain_kind read) (plain_cause command.Keep (begun place.Config o) read) (line_work o records es (option_and_then plain_line (result_ok read)))
    unfolding config_work judge_work
    line_agrees None records es (Ok line.Blank) is = (refl, refl, inl (refl, is))
    line_agrees None records es (Ok (line.Facts facts)) is = (OutOfPlace, refl)
    line_agrees None records es (Ok (line.Config c)) is = config_agrees c records es is (start_fault c) refl
    line_agrees None records es (Ok (line.Admin ask)) is = (OutOfPlace, refl)
    line_agrees None records es (Ok line.Refresh) is = (OutOfPlace, refl)
    line_agrees None records es (Ok (line.Decide q)) is = (OutOfPlace, refl)
    line_agrees None records es (Err cause) is = (cause, refl)
    line_agrees (Some o) records es (Ok line.Blank) is = (refl, refl, inl (refl, is))
    line_agrees (Some o) records es (Ok (line.Facts facts)) is = (OutOfPlace, refl)
    line_agrees (Some o) records es (Ok (line.Config c)) is = (OutOfPlace, refl)
    line_agrees (Some o) records es (Ok (line.Admin ask)) is = (OutOfPlace, refl)
    line_agrees (Some o) records es (Ok line.Refresh) is = (OutOfPlace, refl)
    line_agrees (Some o) records es (Ok (line.Decide q)) is =
        let seen = sees viewed o.admin is.1 in judge_agrees o records es q _ (view o.admin o.admin.state.plugin) seen.0 seen.1 is
    line_agrees (Some o) records es (Err cause) is = (cause, refl)

    worded_agrees : (o : Option Opened) (records : List (List ℕ)) (es : List EnricherState) (bytes : List ℕ) (m : Moment) (admin : Bool) → IsHeld Known o records
        → KeepAgrees Known (begun place.Config o) (kind_from (if admin then Some (own_admin (behind_space bytes)) else None) (line_read bytes m))
        (reason_from command.Keep (begun place.Config o) (if admin then Some (own_admin (behind_space bytes)) else None) (line_read bytes m)) (line_work o records es (worded admin bytes m))
    worded_agrees o records es bytes m true is = admins_agree o records es (behind_space bytes) is
    worded_agrees o records es bytes m false is = line_agrees o records es (line_read bytes m) is

    any_agrees : (o : Option Opened) (records : List (List ℕ)) (es : List EnricherState) (bytes : List ℕ) (m : Moment) (reopen admin : Bool) → IsHeld Known o records
        → KeepAgrees Known (begun place.Config o)
        (kind_from (if reopen then Some (Read kind.Reopen) else (if admin then Some (own_admin (behind_space bytes)) else None)) (line_read bytes m))
        (reason_from command.Keep (begun place.Config o) (if reopen then Some (Read kind.Reopen) else (if admin then Some (own_admin (behind_space bytes)) else None)) (line_read bytes m))
        (line_work o records es (if reopen then Some Reopen else worded admin bytes m))
    any_agrees o records es bytes m true admin is = reopens_agree o records es is
    any_agrees o records es bytes m false admin is = worded_agrees o records es bytes m admin is

    -- a line of a script of which no record is bad
    pub keeps_on : (h : Hooked State) → IsKeeping Known h → (bytes : List ℕ) (m : Moment)
        → KeepAgrees Known (keep_place h) (kind_at command.Keep bytes m) (reason_at command.Keep (keep_place h) bytes m) (with_enrichers keep_step h bytes m)
    unfolding keep_line
    keeps_on h is bytes m =
        subst (λ (bad : Option ℕ). KeepAgrees Known (kept_place bad h.state.opened) (kind_from (keep_line bytes) (line_read bytes m))
        (reason_from command.Keep (kept_place bad h.state.opened) (keep_line bytes) (line_read bytes m))
        (unless_bad bad h.state h.enrichers (line_work h.state.opened h.state.records h.enrichers (keep_line_of bytes m))))
        (sym is.0) (any_agrees h.state.opened h.state.records h.enrichers bytes m (bytes_eq bytes (codes "reopen")) (bytes_eq (front_word bytes) (codes "admin")) is.1)

-- ---- no records are found

abbrev IsNone : List (List ℕ) → Type 0
IsNone records = records ≡ []

abbrev pub IsFresh : Hooked State → Type 0
IsFresh = IsKeeping IsNone

never_spoiled : (h : Hooked State) → GoesOn IsNone h → IsFresh h
never_spoiled h (inl is) = is
never_spoiled h (inr s) = none_some (sym (none_bad s.config) ∙ ap (first_bad s.config) (sym s.known) ∙ s.first)

fresh_agrees : (place : Place) (kind : Option LineKind) (reason : Option Cause) (o : Option (Work (Hooked State)))
    → KeepAgrees IsNone place kind reason o → Agrees keep_place IsFresh place kind reason o
fresh_agrees place kind reason None a = a
fresh_agrees place kind reason (Some w) a = (a.0, a.1, never_spoiled w.state a.2)

-- ---- any records are found

abbrev IsAny : List (List ℕ) → Type 0
IsAny records = Unit {0}

-- behind a bad record nothing more is worked
still : (s : State) (es : List EnricherState) (work : Option (Work (Hooked State))) (n : ℕ) (bad : Option ℕ) → bad ≡ Some n → unless_bad bad s es work ≡ Some (carrying es (quiet s))
still s es work n None is = none_some is
still s es work n (Some k) is = refl

rests_on : (place : ℕ) (r : Option (Output (Hooked State))) (o : Output (Hooked State)) → option_map (before [] []) r ≡ Some o
    → ((q : Output (Hooked State)) → r ≡ Some q → q.state.state.bad ≡ Some place) → o.state.state.bad ≡ Some place
rests_on place None o e rest = none_some e
rests_on place (Some q) o e rest = subst (λ (o : Output (Hooked State)). o.state.state.bad ≡ Some place) (some_same _ o e) (rest q refl)

stays_bad : (h : Hooked State) (place : ℕ) → h.state.bad ≡ Some place → (n : ℕ) (lines : List (List ℕ)) (ms : List Moment) (o : Output (Hooked State))
    → worked (with_enrichers keep_step) h n lines ms ≡ Some o → o.state.state.bad ≡ Some place
stays_bad h place bad n [] [] o e = subst (λ (o : Output (Hooked State)). o.state.state.bad ≡ Some place) (some_same _ o e) bad
stays_bad h place bad n [] (m ∷ ms) o e = none_some e
stays_bad h place bad n (line ∷ lines) [] o e = none_some e
stays_bad h place bad n (line ∷ lines) (m ∷ ms) o e =
    rests_on place (worked (with_enrichers keep_step) h (n + 1) lines ms) o
    (sym (ap (λ (w : Option (Work (Hooked State))). option_map_or (λ (x : Work (Hooked State)). option_map (before x.text x.decided) (worked (with_enrichers keep_step) x.state (n + 1) lines ms)) w (ends_bad h n ms))
    (still h.state h.enrichers (line_work h.state.opened h.state.records h.enrichers (keep_line_of line m)) place h.state.bad bad)) ∙ e)
    (λ q there. stays_bad h place bad (n + 1) lines ms q there)

module _ (by_pairs : (service : List ℕ) (def : ServiceDef) (zones : List ZoneRow) → is_none (first_overlap service def zones) ≡ all_distinct (zones_overlap service def) zones)
    (viewed : (start : Administration) (h : List (Entry Ask AdminReply)) → IsStart start → (k : ℕ) → (f : Facts) × (view (state_at step start h k) start.state.plugin ≡ Some f)) where
  pub keeps_agree : AllAgree command.Keep (with_enrichers keep_step) keep_place IsFresh
  keeps_agree h is bytes m =
      fresh_agrees (keep_place h) (kind_at command.Keep bytes m) (reason_at command.Keep (keep_place h) bytes m) (with_enrichers keep_step h bytes m) (keeps_on IsNone by_pairs viewed h is bytes m)

  module _ (n : ℕ) (line : List ℕ) (lines : List (List ℕ)) (m : Moment) (ms later : List Moment) (o : Output (Hooked State)) (good : o.state.state.bad ≡ None)
      (rest : (t : Hooked State) → IsKeeping IsAny t → (q : Output (Hooked State)) → worked (with_enrichers keep_step) t (n + 1) lines ms ≡ Some q → q.state.state.bad ≡ None
      → EndsAtFirst q (found_from command.Keep (keep_place t) (n + 1) lines (ms ++ later))) where
    -- the lines behind one that was worked
    goes_by : (t : Hooked State) (place : Place) (text : List ℕ) (decided : List Decided) → keep_place t ≡ place → GoesOn IsAny t
        → (r : Option (Output (Hooked State))) → worked (with_enrichers keep_step) t (n + 1) lines ms ≡ r → option_map (before text decided) r ≡ Some o
        → EndsAtFirst o (found_from command.Keep place (n + 1) lines (ms ++ later))
    goes_by t place text decided same on None there e = none_some e
    goes_by t place text decided same (inl is) (Some q) there e =
        subst (λ p. EndsAtFirst o (found_from command.Keep p (n + 1) lines (ms ++ later))) same
        (goes_on text decided (Some q) o (found_from command.Keep (keep_place t) (n + 1) lines (ms ++ later)) e
        (λ p those. rest t is p (there ∙ those) (ap (λ (p : Output (Hooked State)). p.state.state.bad) (sym (some_same q p those)) ∙ last)))
      where
        last : q.state.state.bad ≡ None
        last = ap (λ (p : Output (Hooked State)). p.state.state.bad) (some_same _ o e) ∙ good
    goes_by t place text decided same (inr s) (Some q) there e =
        none_some (sym good ∙ sym (ap (λ (p : Output (Hooked State)). p.state.state.bad) (some_same _ o e)) ∙ stays_bad t s.place s.bad (n + 1) lines ms q there)

    line_by : (s : Hooked State) (place : Place) (kind : Option LineKind) (reason : Option Cause) (w : Option (Work (Hooked State))) → KeepAgrees IsAny place kind reason w
        → option_map_or (λ (w : Work (Hooked State)). option_map (before w.text w.decided) (worked (with_enrichers keep_step) w.state (n + 1) lines ms)) w (ends_bad s n ms) ≡ Some o
        → EndsAtFirst o (option_map_or (λ cause. finding n (cause_text command.Keep place kind cause) ∷ found_from command.Keep place (n + 1) lines (ms ++ later)) reason
        (found_from command.Keep (place_after place kind) (n + 1) lines (ms ++ later)))
    line_by s place kind (Some c) None a e = ends_here s n ms o (cause_text command.Keep place kind c) (found_from command.Keep place (n + 1) lines (ms ++ later)) e
    line_by s place kind None None a e = none_some a.1
    line_by s place kind (Some c) (Some w) a e = none_some (sym a.0)
    line_by s place kind None (Some w) a e =
        goes_by w.state (place_after place kind) w.text w.decided a.1 a.2 (worked (with_enrichers keep_step) w.state (n + 1) lines ms) refl e

  pub keep_ends : (h : Hooked State) → IsKeeping IsAny h → (n : ℕ) (lines : List (List ℕ)) (ms later : List Moment) (o : Output (Hooked State))
      → worked (with_enrichers keep_step) h n lines ms ≡ Some o → o.state.state.bad ≡ None → EndsAtFirst o (found_from command.Keep (keep_place h) n lines (ms ++ later))
  keep_ends h is n [] [] later o e good = subst (λ (q : Output (Hooked State)). EndsAtFirst q []) (some_same _ o e) refl
  keep_ends h is n [] (m ∷ ms) later o e good = none_some e
  keep_ends h is n (line ∷ lines) [] later o e good = none_some e
  keep_ends h is n (line ∷ lines) (m ∷ ms) later o e good =
      line_by n line lines m ms later o good (λ t those q there fine. keep_ends t those (n + 1) lines ms later q there fine)
      h (keep_place h) (kind_at command.Keep line m) (reason_at command.Keep (keep_place h) line m) (with_enrichers keep_step h line m) (keeps_on IsAny by_pairs viewed h is line m) e
