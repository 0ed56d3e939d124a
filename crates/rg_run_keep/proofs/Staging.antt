-- What a stage does with a line, by its kind.
use Rattle.std.proofs.Common.{◌≡◌, ⊎_elim, ◌∙◌, ◌==◌, ◌&&◌, ◌++◌, ◌<◌, ℕ, Bool, true, false, not, true≢false, if◌then◌else◌, List, [], ◌∷◌, length, Option, Some, None, option_map, inl, inr, refl, ap, ap₂, sym, subst}
use Rattle.rg_base.specs.declared.numbers.Moment.{Moment}
use Rattle.rg_policy.specs.declared.request.AccessRequest.{AccessRequest}
use Rattle.rg_hook.specs.Enriching.{EnricherState, Enriching}
use Rattle.rg_cmd.specs.declared.ask.AdminReply.{AdminReply}
use Rattle.rg_cmd.specs.declared.ask.Ask.{Ask}
use Rattle.rg_cmd.specs.declared.config.Config.{Config}
use Rattle.rg_keep.specs.Laws.{is_refused}
use Rattle.rg_keep.specs.Logs.{Administration}
use Rattle.rg_run_script.specs.Current.{decision_now}
use Rattle.rg_ask_wire.specs.Asks.{ask_text}
use Rattle.rg_ask_wire.specs.Keeping.{is_keeping}
use Rattle.rg_record_store.specs.declared.keeper.KeeperFault.{KeeperFault}
use Rattle.rg_record_store.specs.declared.keeper.KeeperFault.TheVariants as fault
use Rattle.rg_keep.specs.Crashes.{IsFit, MayTell}
use Rattle.rg_keep.specs.Keeping.{Adds, HasLength, IsAnswer, IsCause, IsReplayed, Reopens, added_if, adds, is_full, is_past}
use Rattle.rg_keep.specs.Replay.{is_kept, most_kept, replayed, stepped}
use Rattle.rg_keep.specs.declared.kept_admin.KeptReply.{KeptReply}
use Rattle.rg_keep.specs.declared.kept_admin.KeptReply.TheVariants as reply
use Rattle.rg_keep.specs.declared.reopen.ReopenCause.{ReopenCause}
use Rattle.rg_keep.specs.declared.reopen.ReopenCause.TheVariants as cause
use Rattle.rg_keep.proofs.Stepping.{room_within}
use Rattle.rg_run_keep.specs.Lines.{keep_line_of}
use Rattle.rg_run_keep.specs.Opened.{IsLaterCause}
use Rattle.rg_run_keep.specs.declared.line.KeepLine.{KeepLine}
use Rattle.rg_run_keep.specs.declared.line.KeepLine.TheVariants as line
use Rattle.rg_run_script.specs.Follow.{IsWorked, Work}
use Rattle.rg_run_script.specs.Hooked.{AreAudited, Hooked, Hooks, IsAudited, IsJudged, carrying, decided_as, hooked}
use Rattle.rg_run_script.specs.Printed.{quiet, reply_line}
use Rattle.rg_run_script.proofs.Hooks.{audited_none, carried, carried_silent, carries_hooks, judged_audited, judged_worked}
use Rattle.rg_run_keep.specs.Keeps.{Opened, State, ask_work, at, config_work, full_line, judge_work, kept_line, line_work, opened_by, opened_unless, prints, reopen_work, replied}
use Rattle.rg_run_keep.specs.Stages.{Goes, GoesOn, IsLeft, Makes, MayAdd, MayKeep, Stops, StopsAt, kept_reply_line, line_step, stop_of_cause, stop_of_fault}
use Rattle.rg_run_keep.specs.declared.stage.KeepStop.{KeepStop}
use Rattle.rg_run_keep.specs.declared.stage.KeepStop.TheVariants as stop

-- ---- a line that comes to some work

is_worked : (x : Option (Work State)) (w : Work State) (s : State) (old new : List ℕ) → x ≡ Some w → s ≡ w.state → new ≡ old ++ w.text → IsWorked x s old new
is_worked x w s old new e state printed = subst (λ y. IsWorked y s old new) (sym e) (state, printed)

makes_goes : (told : Option (List (List ℕ))) (work : List (List ℕ) → Option (Work State)) (told' : Option (List (List ℕ))) (o : Option Opened) (printed old new : List ℕ)
    → Makes told work told' o printed → new ≡ old ++ printed → Goes told work told' o old new
makes_goes None work told' o printed old new is added = is
makes_goes (Some records) work told' o printed old new (w, e, tells, state, text) added =
    (w.state.records, tells, is_worked (work records) w (at o w.state.records) old new e (sym state) (added ∙ ap (λ t. old ++ t) (sym text)))

makes_stops : (told : Option (List (List ℕ))) (work : List (List ℕ) → Option (Work State)) (told' : Option (List (List ℕ))) (o p : Option Opened) (printed : List ℕ)
    → Makes told work told' o printed → Stops stop.NoMemory told work p told'
makes_stops None work told' o p printed is = is
makes_stops (Some records) work told' o p printed (w, e, tells, state, text) = inr (w, e, tells)

bad_stops : (told : Option (List (List ℕ))) (work : List (List ℕ) → Option (Work State)) (o : Option Opened) → ((records : List (List ℕ)) → work records ≡ None) → Stops stop.Bad told work o told
bad_stops None work o bad = refl
bad_stops (Some records) work o bad = (refl, bad records)

-- ---- a configuration

pub opened_already : (told : Option (List (List ℕ))) (o : Opened) (config : Config) → Stops stop.Bad told (λ records. config_work (Some o) records config) (Some o) told
unfolding config_work
opened_already told o config = bad_stops told (λ records. config_work (Some o) records config) (Some o) (λ _. refl)

started_makes : (told told' : Option (List (List ℕ))) (config config' : Config) (a : Administration) → config' ≡ config → IsReplayed told config a → Reopens told config → told' ≡ told
    → Makes told (λ records. config_work None records config) told' (Some (record { config = config'; admin = a })) []
unfolding config_work
started_makes None told' config config' a is made reopens same = same
started_makes (Some records) told' config config' a is made reopens same = (
  quiet (opened_by config records None),
  ap (λ f. opened_unless f config records) reopens.0 ∙ ap (λ bad. Some (quiet (opened_by config records bad))) reopens.1,
  same,
  ap₂ (λ (c : Config) (b : Administration). at (Some (record { config = c; admin = b })) records) (sym is) (sym made),
  refl,
)

pub started_goes : (told told' : Option (List (List ℕ))) (config config' : Config) (a : Administration) → config' ≡ config → IsReplayed told config a → Reopens told config → told' ≡ told
    → Goes told (λ records. config_work None records config) told' (Some (record { config = config'; admin = a })) [] []
started_goes told told' config config' a is made reopens same =
    makes_goes told (λ records. config_work None records config) told' (Some (record { config = config'; admin = a })) [] [] [] (started_makes told told' config config' a is made reopens same) refl

pub start_stops : (told told' : Option (List (List ℕ))) (config : Config) (why : ReopenCause) (before after : ℕ) → IsCause why told config before after → told' ≡ told
    → Stops (stop_of_cause why) told (λ records. config_work None records config) None told'
unfolding config_work
start_stops None told' config why before after is same = same
start_stops (Some records) told' config (cause.Rule rule) before after is same = (same, ap (λ f. opened_unless f config records) is)
start_stops (Some records) told' config (cause.BadRecord place) before after is same =
    (same, refl, ap (λ f. opened_unless f config records) is.0 ∙ ap (λ bad. Some (quiet (opened_by config records bad))) is.1)
start_stops (Some records) told' config cause.Failed before after is same = inl same
start_stops (Some records) told' config cause.NoMemory before after is same = inl same

pub start_failed : (told : Option (List (List ℕ))) (config : Config) (why : ReopenCause) (before after : ℕ) → IsCause why told config before after → stop_of_cause why ≡ stop.Failed → before < after
start_failed told config (cause.Rule rule) before after is failed = absurd (cc failed)
start_failed told config (cause.BadRecord place) before after is failed = absurd (cc failed)
start_failed told config cause.Failed before after is failed = is
start_failed told config cause.NoMemory before after is failed = absurd (cc failed)

-- ---- an ask

pub unopened_ask : (told : Option (List (List ℕ))) (ask : Ask) → Stops stop.Bad told (λ records. ask_work None records ask) None told
unfolding ask_work
unopened_ask told ask = bad_stops told (λ records. ask_work None records ask) None (λ _. refl)

-- where it isn't past those that may be kept, it is added exactly where it is kept
kept_looks : (a : Administration) (ask : Ask) → is_keeping ask.command ≡ false → is_kept a ask ≡ false
unfolding is_kept
kept_looks a ask looks = ap (λ k. k && not (is_refused (stepped a ask).1)) looks

adds_kept : (n : ℕ) (a : Administration) (ask : Ask) → is_past n ask ≡ false → adds n a ask ≡ is_kept a ask
adds_kept n a ask within = by (n == most_kept) (is_keeping ask.command) within (λ looks. kept_looks a ask looks)
  where
    by : (most keeps : Bool) → (keeps && most) ≡ false → (keeps ≡ false → is_kept a ask ≡ false) → (not most && is_kept a ask) ≡ is_kept a ask
    by false keeps within looks = refl
    by true true within looks = absurd (true≢false within)
    by true false within looks = sym (looks refl)

adds_past : (n : ℕ) (a : Administration) (ask : Ask) → is_past n ask ≡ true → adds n a ask ≡ false
adds_past n a ask past = by (n == most_kept) (is_keeping ask.command) past
  where
    by : (most keeps : Bool) → (keeps && most) ≡ true → (not most && is_kept a ask) ≡ false
    by true keeps past = refl
    by false true past = absurd (true≢false (sym past))
    by false false past = absurd (true≢false (sym past))

abbrev asked : Opened → List (List ℕ) → Ask → Bool → Option (Work State)
asked o records ask past = Some (if past then prints full_line (at (Some o) records) else replied o records ask)

module _ (config config' : Config) (a after : Administration) (n : ℕ) (ask : Ask) (is : config' ≡ config) where
  abbrev here : Opened
  here = record { config = config; admin = a }

  abbrev next : Opened
  next = record { config = config'; admin = after }

  asked_makes : (told told' : Option (List (List ℕ))) (answer : KeptReply) → HasLength told n → IsAnswer a ask after answer → is_full answer ≡ is_past n ask → Adds told (adds n a ask) (ask_text ask) told'
      → Makes told (λ records. ask_work (Some here) records ask) told' (Some next) (kept_reply_line answer)
  unfolding ask_work
  asked_makes None told' answer long answers full added = added
  asked_makes (Some records) told' (reply.Reply r) long answers full added =
      let within : is_past n ask ≡ false = sym full in (
        replied here records ask,
        ap (asked here records ask) (ap (λ k. is_past k ask) (sym long) ∙ within),
        added ∙ ap (λ b. Some (added_if b (ask_text ask) records)) (adds_kept n a ask within),
        ap₂ (λ (c : Config) (b : Administration). at (Some (record { config = c; admin = b })) (added_if (is_kept a ask) (ask_text ask) records)) (sym is)
            (sym (ap (λ (p : Administration × AdminReply). p.0) answers)),
        ap (λ (p : Administration × AdminReply). reply_line p.1) (sym answers),
      )
  asked_makes (Some records) told' reply.Full long answers full added =
      let past : is_past n ask ≡ true = sym full in (
        prints full_line (at (Some here) records),
        ap (asked here records ask) (ap (λ k. is_past k ask) (sym long) ∙ past),
        added ∙ ap (λ b. Some (added_if b (ask_text ask) records)) (adds_past n a ask past),
        ap₂ (λ (c : Config) (b : Administration). at (Some (record { config = c; admin = b })) records) (sym is) (sym answers),
        refl,
      )

  pub asked_goes : (told told' : Option (List (List ℕ))) (answer : KeptReply) (old new : List ℕ) → HasLength told n → IsAnswer a ask after answer → is_full answer ≡ is_past n ask
      → Adds told (adds n a ask) (ask_text ask) told' → new ≡ old ++ kept_reply_line answer → Goes told (λ records. ask_work (Some here) records ask) told' (Some next) old new
  asked_goes told told' answer old new long answers full added printed =
      makes_goes told (λ records. ask_work (Some here) records ask) told' (Some next) (kept_reply_line answer) old new (asked_makes told told' answer long answers full added) printed

  pub asked_stops : (told told' : Option (List (List ℕ))) (answer : KeptReply) → HasLength told n → IsAnswer a ask after answer → is_full answer ≡ is_past n ask
      → Adds told (adds n a ask) (ask_text ask) told' → Stops stop.NoMemory told (λ records. ask_work (Some here) records ask) (Some here) told'
  asked_stops told told' answer long answers full added =
      makes_stops told (λ records. ask_work (Some here) records ask) told' (Some next) (Some here) (kept_reply_line answer) (asked_makes told told' answer long answers full added)

-- the keeper failed, or memory was refused
module _ (o : Opened) (n : ℕ) (ask : Ask) where
  tells_added : (records : List (List ℕ)) (told' : Option (List (List ℕ))) → n ≡ length records → MayTell (Some records) o.admin ask n told' → MayAdd records (ask_work (Some o) records ask) told'
  unfolding ask_work
  tells_added records told' long may = ⊎_elim
      (λ (same : told' ≡ Some records). (let m : MayAdd records (asked o records ask (is_past (length records) ask)) told' = inl same in m))
      (λ (added : IsFit o.admin ask n × (told' ≡ Some (records ++ ask_text ask ∷ []))).
      (let m : MayAdd records (asked o records ask (is_past (length records) ask)) told' =
      inr (
        replied o records ask,
        ap (asked o records ask) (ap (λ k. is_past k ask) (sym long) ∙ sym (room_within n ask added.0.room)),
        added.1 ∙ ap (λ b. Some (added_if b (ask_text ask) records)) (sym added.0.kept),
      )
      in m))
      may

  pub ask_stops : (told told' : Option (List (List ℕ))) (why : KeeperFault) → HasLength told n → MayTell told o.admin ask n told'
      → Stops (stop_of_fault why) told (λ records. ask_work (Some o) records ask) (Some o) told'
  ask_stops None told' why long may = may
  ask_stops (Some records) told' fault.Failed long may = tells_added records told' long may
  ask_stops (Some records) told' fault.NoMemory long may = tells_added records told' long may

pub ask_failed : (why : KeeperFault) → stop_of_fault why ≡ stop.Failed → why ≡ fault.Failed
ask_failed fault.Failed failed = refl
ask_failed fault.NoMemory failed = absurd (cc failed)

-- ---- once more from the records

pub unopened_reopen : (told : Option (List (List ℕ))) → Stops stop.Bad told (reopen_work None) None told
unfolding reopen_work
unopened_reopen told = bad_stops told (reopen_work None) None (λ _. refl)

reopened_makes : (told told' : Option (List (List ℕ))) (config config' : Config) (a b : Administration) (n : ℕ) → config' ≡ config → IsReplayed told config b → told' ≡ told → HasLength told' n
    → Makes told (reopen_work (Some (record { config = config; admin = a }))) told' (Some (record { config = config'; admin = b })) (kept_line n)
unfolding reopen_work
reopened_makes None told' config config' a b n is made same long = same
reopened_makes (Some records) told' config config' a b n is made same long = (
  prints (kept_line (length records)) (at (Some (record { config = config; admin = replayed config records })) records),
  refl,
  same,
  ap₂ (λ (c : Config) (d : Administration). at (Some (record { config = c; admin = d })) records) (sym is) (sym made),
  ap kept_line (sym (subst (λ t. HasLength t n) same long)),
)

module _ (told told' : Option (List (List ℕ))) (config config' : Config) (a b : Administration) (n : ℕ) where
  pub reopened_goes : (old new : List ℕ) → config' ≡ config → IsReplayed told config b → told' ≡ told → HasLength told' n → new ≡ old ++ kept_line n
      → Goes told (reopen_work (Some (record { config = config; admin = a }))) told' (Some (record { config = config'; admin = b })) old new
  reopened_goes old new is made same long printed =
      makes_goes told (reopen_work (Some (record { config = config; admin = a }))) told' (Some (record { config = config'; admin = b })) (kept_line n) old new
      (reopened_makes told told' config config' a b n is made same long) printed

pub same_stops : (told told' : Option (List (List ℕ))) (work : List (List ℕ) → Option (Work State)) (o : Option Opened) → told' ≡ told → Stops stop.NoMemory told work o told'
same_stops None told' work o same = same
same_stops (Some records) told' work o same = inl same

pub reopen_stops : (told told' : Option (List (List ℕ))) (o : Opened) (why : ReopenCause) (before after : ℕ) → IsLaterCause why told before after → told' ≡ told
    → Stops (stop_of_cause why) told (reopen_work (Some o)) (Some o) told'
reopen_stops None told' o why before after is same = same
reopen_stops (Some records) told' o (cause.Rule rule) before after is same = absurd is
reopen_stops (Some records) told' o (cause.BadRecord place) before after is same = absurd is
reopen_stops (Some records) told' o cause.Failed before after is same = inl same
reopen_stops (Some records) told' o cause.NoMemory before after is same = inl same

pub reopen_failed : (told : Option (List (List ℕ))) (why : ReopenCause) (before after : ℕ) → IsLaterCause why told before after → stop_of_cause why ≡ stop.Failed → before < after
reopen_failed told (cause.Rule rule) before after is failed = absurd (cc failed)
reopen_failed told (cause.BadRecord place) before after is failed = absurd (cc failed)
reopen_failed told cause.Failed before after is failed = is
reopen_failed told cause.NoMemory before after is failed = absurd (cc failed)

-- ---- with hooks

carried_goes : (told told' : Option (List (List ℕ))) (work : List (List ℕ) → Option (Work State)) (o : Option Opened) (h : Hooks) (old new : List ℕ) → Goes told work told' o old new
    → GoesOn told (λ records. option_map (carrying h.enrichers) (work records)) told' o h h old new
carried_goes None told' work o h old new goes = (goes, ([], audited_none h))
carried_goes (Some records) told' work o h old new (now, tells, is) =
    (now, tells, carried (work records) (at o now) h.enrichers old new is, carries_hooks (work records) h.enrichers h)

-- nothing was printed, whatever was before
carried_silent_goes : (told told' : Option (List (List ℕ))) (work : List (List ℕ) → Option (Work State)) (o : Option Opened) (h : Hooks) (text : List ℕ) → Goes told work told' o [] []
    → GoesOn told (λ records. option_map (carrying h.enrichers) (work records)) told' o h h text text
carried_silent_goes None told' work o h text goes = (goes, ([], audited_none h))
carried_silent_goes (Some records) told' work o h text (now, tells, is) =
    (now, tells, carried_silent (work records) (at o now) h.enrichers text is, carries_hooks (work records) h.enrichers h)

carried_adds : (records : List (List ℕ)) (es : List EnricherState) (work : Option (Work State)) (told' : Option (List (List ℕ))) → MayAdd records work told' → MayKeep records (option_map (carrying es) work) told'
carried_adds records es work told' may = ⊎_elim
    (λ (same : told' ≡ Some records). (let m : MayKeep records (option_map (carrying es) work) told' = inl same in m))
    (λ (added : (w : Work State) × (work ≡ Some w) × (told' ≡ Some w.state.records)).
    (let m : MayKeep records (option_map (carrying es) work) told' = inr (carrying es added.0, ap (option_map (carrying es)) added.1, added.2) in m))
    may

carried_stops : (told told' : Option (List (List ℕ))) (why : KeepStop) (work : List (List ℕ) → Option (Work State)) (o : Option Opened) (es : List EnricherState) → Stops why told work o told'
    → StopsAt why told (λ records. option_map (carrying es) (work records)) o es told'
carried_stops None told' why work o es stops = stops
carried_stops (Some records) told' stop.Bad work o es stops = (stops.0, ap (option_map (carrying es)) stops.1)
carried_stops (Some records) told' (stop.BadRecord place) work o es stops = (stops.0, stops.1, ap (option_map (carrying es)) stops.2)
carried_stops (Some records) told' stop.Failed work o es stops = carried_adds records es (work records) told' stops
carried_stops (Some records) told' stop.NoMemory work o es stops = carried_adds records es (work records) told' stops

bad_stops_at : (told : Option (List (List ℕ))) (work : List (List ℕ) → Option (Work (Hooked State))) (o : Option Opened) (es : List EnricherState) → ((records : List (List ℕ)) → work records ≡ None)
    → StopsAt stop.Bad told work o es told
bad_stops_at None work o es bad = refl
bad_stops_at (Some records) work o es bad = (refl, bad records)

pub same_stops_at : (told told' : Option (List (List ℕ))) (work : List (List ℕ) → Option (Work (Hooked State))) (o : Option Opened) (es : List EnricherState) → told' ≡ told → StopsAt stop.NoMemory told work o es told'
same_stops_at None told' work o es same = same
same_stops_at (Some records) told' work o es same = inl same

-- hooks that were left alone
pub left_alone : (why : KeepStop) (h : Hooks) → IsLeft why h h
left_alone stop.Bad h = refl
left_alone (stop.BadRecord place) h = refl
left_alone stop.Failed h = refl
left_alone stop.NoMemory h = (refl, inl refl)

-- ---- a decision

pub unopened_judge : (told : Option (List (List ℕ))) (es : List EnricherState) (q : AccessRequest) → StopsAt stop.Bad told (λ records. judge_work None records es q) None es told
unfolding judge_work
unopened_judge told es q = bad_stops_at told (λ records. judge_work None records es q) None es (λ _. refl)

module _ (o : Opened) (q : AccessRequest) (h k : Hooks) (old new : List ℕ) (is : IsJudged o.admin.state.plugin (decision_now o.admin) q h k old new) where
  judged_so : AreAudited (decided_as o.admin.state.plugin q is.request is.decision ∷ []) h k
  judged_so = record {
    lines = is.given;
    enriched = (sym (ap (λ (e : Enriching). e.request) is.enriched), sym (ap (λ (e : Enriching). e.enrichers) is.enriched));
  }

  pub judged_goes : (told : Option (List (List ℕ))) → GoesOn told (λ records. judge_work (Some o) records h.enrichers q) told (Some o) h k old new
  unfolding judge_work
  judged_goes None = (refl, (decided_as o.admin.state.plugin q is.request is.decision ∷ [], judged_so))
  judged_goes (Some records) = (
    records,
    refl,
    judged_worked (at (Some o) records) o.admin.state.plugin (decision_now o.admin) q h k old new is,
    judged_audited (at (Some o) records) o.admin.state.plugin (decision_now o.admin) q h k old new is,
  )

-- ---- a line that was read

module _ (o : Option Opened) (es : List EnricherState) (bytes : List ℕ) (m : Moment) (read : Option KeepLine) (is : keep_line_of bytes m ≡ read) where
  same_step : (records : List (List ℕ)) → line_work o records es read ≡ line_step o es bytes m records
  same_step records = sym (ap (line_work o records es) is)

  read_stops : (told told' : Option (List (List ℕ))) (why : KeepStop) → StopsAt why told (λ records. line_work o records es read) o es told' → StopsAt why told (line_step o es bytes m) o es told'
  read_stops None told' why stops = stops
  read_stops (Some records) told' stop.Bad stops = (stops.0, sym (same_step records) ∙ stops.1)
  read_stops (Some records) told' (stop.BadRecord place) stops = (stops.0, stops.1, sym (same_step records) ∙ stops.2)
  read_stops (Some records) told' stop.Failed stops = subst (λ x. MayKeep records x told') (same_step records) stops
  read_stops (Some records) told' stop.NoMemory stops = subst (λ x. MayKeep records x told') (same_step records) stops

read_goes : (o : Option Opened) (bytes : List ℕ) (m : Moment) (read : Option KeepLine) (h k : Hooks) → keep_line_of bytes m ≡ read → (told told' : Option (List (List ℕ))) (o' : Option Opened) (old new : List ℕ)
    → GoesOn told (λ records. line_work o records h.enrichers read) told' o' h k old new → GoesOn told (line_step o h.enrichers bytes m) told' o' h k old new
read_goes o bytes m read h k is None told' o' old new goes = goes
read_goes o bytes m read h k is (Some records) told' o' old new goes = (
  goes.0,
  goes.1,
  subst (λ x. IsWorked x (hooked (at o' goes.0) k.enrichers) old new) (same_step o h.enrichers bytes m read is records) goes.2,
  subst (λ x. IsAudited x h k) (same_step o h.enrichers bytes m read is records) goes.3,
)

-- a line of each kind goes on, or stops
pub blank_on : (o : Option Opened) (bytes : List ℕ) (m : Moment) (told : Option (List (List ℕ))) (h : Hooks) (text : List ℕ) → keep_line_of bytes m ≡ Some line.Blank
    → GoesOn told (line_step o h.enrichers bytes m) told o h h text text
blank_on o bytes m told h text is =
    read_goes o bytes m (Some line.Blank) h h is told told o text text (carried_silent_goes told told (λ records. Some (quiet (at o records))) o h text (by told))
  where
    by : (t : Option (List (List ℕ))) → Goes t (λ records. Some (quiet (at o records))) t o [] []
    by None = refl
    by (Some records) = (records, refl, (refl, refl))

module _ (o : Option Opened) (bytes : List ℕ) (m : Moment) (told told' : Option (List (List ℕ))) (h : Hooks) where
  pub config_on : (config : Config) (o' : Option Opened) (text : List ℕ) → keep_line_of bytes m ≡ Some (line.Config config) → Goes told (λ records. config_work o records config) told' o' [] []
      → GoesOn told (line_step o h.enrichers bytes m) told' o' h h text text
  config_on config o' text is goes =
      read_goes o bytes m (Some (line.Config config)) h h is told told' o' text text (carried_silent_goes told told' (λ records. config_work o records config) o' h text goes)

  pub ask_on : (ask : Ask) (o' : Option Opened) (old new : List ℕ) → keep_line_of bytes m ≡ Some (line.Ask ask) → Goes told (λ records. ask_work o records ask) told' o' old new
      → GoesOn told (line_step o h.enrichers bytes m) told' o' h h old new
  ask_on ask o' old new is goes =
      read_goes o bytes m (Some (line.Ask ask)) h h is told told' o' old new (carried_goes told told' (λ records. ask_work o records ask) o' h old new goes)

  pub reopen_on : (o' : Option Opened) (old new : List ℕ) → keep_line_of bytes m ≡ Some line.Reopen → Goes told (reopen_work o) told' o' old new
      → GoesOn told (line_step o h.enrichers bytes m) told' o' h h old new
  reopen_on o' old new is goes =
      read_goes o bytes m (Some line.Reopen) h h is told told' o' old new (carried_goes told told' (reopen_work o) o' h old new goes)

  pub decide_on : (q : AccessRequest) (k : Hooks) (o' : Option Opened) (old new : List ℕ) → keep_line_of bytes m ≡ Some (line.Decide q) → GoesOn told (λ records. judge_work o records h.enrichers q) told' o' h k old new
      → GoesOn told (line_step o h.enrichers bytes m) told' o' h k old new
  decide_on q k o' old new is goes = read_goes o bytes m (Some (line.Decide q)) h k is told told' o' old new goes

module _ (o : Option Opened) (bytes : List ℕ) (m : Moment) (told told' : Option (List (List ℕ))) (es : List EnricherState) (why : KeepStop) where
  pub config_stops : (config : Config) → keep_line_of bytes m ≡ Some (line.Config config) → Stops why told (λ records. config_work o records config) o told'
      → StopsAt why told (line_step o es bytes m) o es told'
  config_stops config is stops =
      read_stops o es bytes m (Some (line.Config config)) is told told' why (carried_stops told told' why (λ records. config_work o records config) o es stops)

  pub ask_line_stops : (ask : Ask) → keep_line_of bytes m ≡ Some (line.Ask ask) → Stops why told (λ records. ask_work o records ask) o told' → StopsAt why told (line_step o es bytes m) o es told'
  ask_line_stops ask is stops = read_stops o es bytes m (Some (line.Ask ask)) is told told' why (carried_stops told told' why (λ records. ask_work o records ask) o es stops)

  pub reopen_line_stops : keep_line_of bytes m ≡ Some line.Reopen → Stops why told (reopen_work o) o told' → StopsAt why told (line_step o es bytes m) o es told'
  reopen_line_stops is stops = read_stops o es bytes m (Some line.Reopen) is told told' why (carried_stops told told' why (reopen_work o) o es stops)

  pub decide_line_stops : (q : AccessRequest) → keep_line_of bytes m ≡ Some (line.Decide q) → StopsAt why told (λ records. judge_work o records es q) o es told' → StopsAt why told (line_step o es bytes m) o es told'
  decide_line_stops q is stops = read_stops o es bytes m (Some (line.Decide q)) is told told' why stops

-- a line that isn't read
pub unread_stops : (told : Option (List (List ℕ))) (o : Option Opened) (es : List EnricherState) (bytes : List ℕ) (m : Moment) → keep_line_of bytes m ≡ None → StopsAt stop.Bad told (line_step o es bytes m) o es told
unread_stops told o es bytes m is = read_stops o es bytes m None is told told stop.Bad (bad_stops_at told (λ records. line_work o records es None) o es (λ _. refl))

pub ruleset starting = (start_failed)

pub ruleset asking = (unopened_ask, ask_failed)

pub ruleset reopening = (unopened_reopen, reopened_goes, same_stops, reopen_stops, reopen_failed)

pub ruleset deciding_now = (unopened_judge, same_stops_at, left_alone)
