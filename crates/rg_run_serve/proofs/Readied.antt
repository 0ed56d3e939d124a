-- What a script of `serve` comes to: its asks, the refresh after them, and what is printed.
use Rattle.std.proofs.Common.{◌≡◌, ◌∙◌, ◌⊎◌, ◌+◌, ◌-◌, ◌++◌, ◌≤◌, ℕ, false, List, [], ◌∷◌, length, length-append, Option, Some, None, option_map, slice_get, append_assoc, append-nil, arith, refl, ap, sym, subst, inl, inr}
use Rattle.std.specs.Option.{option_map_or}
use Rattle.std.proofs.lemmas.Option.{same_Some}
use Rattle.rg_base.specs.declared.numbers.Moment.{Moment}
use Rattle.rg_turn.specs.History.{state_after, state_at}
use Rattle.rg_turn.specs.View.{entry}
use Rattle.rg_turn.proofs.Histories.{state_after_snoc, state_at_end}
use Rattle.rg_facts.specs.declared.facts.Facts.{Facts}
use Rattle.rg_cmd.specs.declared.ask.AdminReply.{AdminReply}
use Rattle.rg_cmd.specs.declared.ask.AdminReply.TheVariants.{Downloaded}
use Rattle.rg_cmd.specs.declared.ask.Ask.{Ask}
use Rattle.rg_cmd.specs.declared.config.Config.{Config}
use Rattle.rg_cmd.specs.declared.rule.Rule.{Rule}
use Rattle.rg_admin_laws.specs.Logs.{Administration}
use Rattle.rg_admin_laws.specs.Machine.{download_ask, same_versions, versions}
use Rattle.rg_admin_laws.specs.Steps.{step}
use Rattle.rg_admin_laws.specs.Views.{view}
use Rattle.rg_admin.specs.Starting.{start_fault}
use Rattle.rg_publish.specs.Publications.{publication}
use Rattle.rg_publish.specs.declared.history.Publication.{Publication}
use Rattle.rg_serve.specs.Refreshing.{Publishes, is_unpublished}
use Rattle.rg_serve.specs.Refresh.{Refresh}
use Rattle.rg_serve.specs.Refresh.TheVariants.{Unchanged, Published}
use Rattle.rg_script.specs.declared.line.Line.{Line}
use Rattle.rg_script.specs.declared.line.Line.TheVariants as line
use Rattle.rg_script.specs.Line.{line_of}
use Rattle.rg_script.specs.Lines.{lines_of}
use Rattle.rg_serve.specs.Opened.{IsAlone, IsAsked, IsRefreshed, Opened, opened, present}
use Rattle.rg_run_script.specs.declared.status.Status.{Status}
use Rattle.rg_run_script.specs.declared.status.Status.TheVariants.{Done, BadLine}
use Rattle.rg_run_script.specs.Follow.{Comes, Decided, Output, Work, bad_line_text, before, ends_bad, worked}
use Rattle.rg_run_serve.specs.Preparing.{AreAsked, IsPrepared, IsReady}
use Rattle.rg_run_script.specs.Printed.{reply_line}
use Rattle.rg_run_serve.specs.Serve.{AreRaised, Asked, Asking, IsOpened, after_asks, ask_taken, begun_unless, config_taken, entries_of, line_taken, replies, serve_step, taken, unless_begun}

-- what an option is mapped from
mapped : {A B : Type 0} (f : A → B) (o : Option A) (b : B) → option_map f o ≡ Some b → (a : A) × (o ≡ Some a) × (f a ≡ b)
mapped f None b e = absurd (cc e)
mapped f (Some a) b e = (a, refl, same_Some (f a) b e)

-- ---- asks

replies_snoc : (a : Administration) (asks : List Ask) (ask : Ask) → replies a (asks ++ ask ∷ []) ≡ replies a asks ++ reply_line (step (after_asks a asks) ask).1
replies_snoc a [] ask = append-nil (reply_line (step a ask).1)
replies_snoc a (b ∷ asks) ask =
    ap (λ t. reply_line (step a b).1 ++ t) (replies_snoc (step a b).0 asks ask)
    ∙ sym (append_assoc (reply_line (step a b).1) (replies (step a b).0 asks) (reply_line (step (after_asks (step a b).0 asks) ask).1))

after_snoc : (a : Administration) (asks : List Ask) (ask : Ask) → after_asks a (asks ++ ask ∷ []) ≡ (step (after_asks a asks) ask).0
after_snoc a [] ask = refl
after_snoc a (b ∷ asks) ask = after_snoc (step a b).0 asks ask

entries_snoc : (a : Administration) (asks : List Ask) (ask : Ask) → entries_of a (asks ++ ask ∷ []) ≡ entries_of a asks ++ entry ask (step (after_asks a asks) ask).1 ∷ []
entries_snoc a [] ask = refl
entries_snoc a (b ∷ asks) ask = ap (λ l. entry b (step a b).1 ∷ l) (entries_snoc (step a b).0 asks ask)

pub asked_none : (o : Opened) → AreAsked o [] o []
asked_none o = record {
  start = refl;
  published = refl;
  workers = refl;
  calls = omega arith;
  alone = λ is. (is, refl, refl, sym (append-nil o.history));
}

module _ (o mid later : Opened) (asks : List Ask) (ask : Ask) (reply : AdminReply) (text text' : List ℕ) (all : AreAsked o asks mid text) (one : IsAsked mid ask reply later)
    (printed : text' ≡ text ++ reply_line reply) where
  same_start : later.start ≡ mid.start
  same_start = ap (λ (x : Opened). x.start) one.later

  pub asked_more : AreAsked o (asks ++ ask ∷ []) later text'
  asked_more = record {
    start = same_start ∙ all.start;
    published = ap (λ (x : Opened). x.published) one.later ∙ all.published;
    workers = ap (λ (x : Opened). x.workers) one.later ∙ all.workers;
    calls = omega (arith, ap (λ (x : Opened). x.calls) one.later, all.calls, length-append asks (ask ∷ []));
    alone = λ is.
        let now = one.alone is in
        let before = all.alone now.0 in (
          before.0,
          ap (λ a. state_after step a later.history) same_start
              ∙ (ap (state_after step mid.start) now.2 ∙ (state_after_snoc step mid.start mid.history (entry ask reply)
              ∙ (ap (λ a. (step a ask).0) before.1 ∙ sym (after_snoc (present o) asks ask)))),
          printed
              ∙ (ap (λ t. t ++ reply_line reply) before.2
              ∙ (ap (λ r. replies (present o) asks ++ reply_line r) (now.1 ∙ ap (λ a. (step a ask).1) before.1)
              ∙ sym (replies_snoc (present o) asks ask))),
          now.2
              ∙ (ap (λ h. h ++ entry ask reply ∷ []) before.3
              ∙ (append_assoc o.history (entries_of (present o) asks) (entry ask reply ∷ [])
              ∙ (ap (λ r. o.history ++ (entries_of (present o) asks ++ entry ask r ∷ [])) (now.1 ∙ ap (λ a. (step a ask).1) before.1)
              ∙ ap (λ l. o.history ++ l) (sym (entries_snoc (present o) asks ask))))),
        );
  }

-- ---- a refresh

published_more : (n : ℕ) (facts : Facts) (before after : List Publication) (refresh : Refresh) → Publishes n facts before refresh after
    → (length before ≤ length after) × (is_unpublished refresh ≡ false → length before + 1 ≤ length after)
published_more n facts before after Unchanged same = (omega (arith, ap length same), λ no. absurd (cc no))
published_more n facts before after (Published serial) more =
    let long = ap length more.1 in
    let sum = length-append before (publication serial.0 n facts ∷ []) in (omega (arith, long, sum), λ yes. omega (arith, long, sum))

module _ (workers : ℕ) (admin : Administration) (asks : List Ask) (o mid later : Opened) (refresh : Refresh) (text : List ℕ) (opens : opened workers admin ≡ Some o)
    (many : o.workers ≡ workers) (all : AreAsked o asks mid text) (again : IsRefreshed mid refresh later) where
  begins : (f : Facts) × (view admin admin.state.plugin ≡ Some f) × (record { start = admin; history = []; calls = 0; published = publication 1 0 f ∷ []; workers = workers } ≡ o)
  begins = mapped (λ f. record { start = admin; history = []; calls = 0; published = publication 1 0 f ∷ []; workers = workers }) (view admin admin.state.plugin) o opens

  abbrev first : Facts
  first = begins.0

  starts : mid.start ≡ admin
  starts = all.start ∙ sym (ap (λ (x : Opened). x.start) begins.2)

  opening : present o ≡ admin
  opening = sym (ap present begins.2)

  list : mid.published ≡ publication 1 0 first ∷ []
  list = all.published ∙ sym (ap (λ (x : Opened). x.published) begins.2)

  alone : IsAlone o × (present mid ≡ after_asks (present o) asks) × (text ≡ replies (present o) asks) × (mid.history ≡ o.history ++ entries_of (present o) asks)
  alone = all.alone again.before

  more : (length mid.published ≤ length later.published) × (is_unpublished refresh ≡ false → length mid.published + 1 ≤ length later.published)
  more = published_more (length mid.history) again.published.present mid.published later.published refresh again.published.list

  newest_is : again.published.newest ≡ publication 1 0 first
  newest_is =
      same_Some again.published.newest (publication 1 0 first)
      (sym again.published.last ∙ ap (λ (l : List Publication). slice_get l (length l - 1)) list)

  -- what the plugin sees when it is refreshed
  seen : view (after_asks admin asks) admin.state.plugin ≡ Some again.published.present
  seen =
      sym (ap (λ a. view a admin.state.plugin) (
      ap (λ h. state_at step mid.start h (length mid.history)) again.history
      ∙ (state_at_end step mid.start mid.history _ ∙ (alone.1 ∙ ap (λ a. after_asks a asks) opening))))
      ∙ (ap (λ a. view (state_at step mid.start later.history (length mid.history)) a.state.plugin) (sym starts) ∙ again.published.viewed)

  raises : AreRaised admin asks → is_unpublished refresh ≡ false
  raises (f, g, f_is, g_is, differ) =
      let was : again.published.newest.facts ≡ f = ap (λ (p : Publication). p.facts) newest_is ∙ same_Some first f (sym begins.1 ∙ f_is) in
      let is : again.published.present ≡ g = same_Some again.published.present g (sym seen ∙ g_is) in
      again.published.unchanged ∙ (ap (λ x. same_versions (versions x) (versions again.published.present)) was ∙ (ap (λ x. same_versions (versions f) (versions x)) is ∙ differ))

  -- what was asked until then
  asked : mid.history ≡ entries_of admin asks
  asked = alone.3 ∙ (ap (λ h. h ++ entries_of (present o) asks) (sym (ap (λ (x : Opened). x.history) begins.2)) ∙ ap (λ a. entries_of a asks) opening)

  opened_so : IsOpened (record { start = admin; asks = asks }) later
  opened_so = record {
    start = ap (λ (x : Opened). x.start) again.later ∙ starts;
    from = versions again.published.newest.facts;
    reply = Downloaded again.document;
    history =
        again.history
        ∙ (ap (λ h. h ++ entry (download_ask mid.start.state.plugin (versions again.published.newest.facts)) (Downloaded again.document) ∷ []) asked
        ∙ ap (λ a. entries_of admin asks ++ entry (download_ask a.state.plugin (versions again.published.newest.facts)) (Downloaded again.document) ∷ []) starts);
    calls = sym again.after;
  }

  pub readied : IsReady admin asks workers later text
  readied = record {
    opens = opened_so;
    workers_are = ap (λ (x : Opened). x.workers) again.later ∙ (all.workers ∙ many);
    entries = omega (arith, again.after, ap (λ (x : Opened). x.calls) again.later, all.calls, ap (λ (x : Opened). x.calls) begins.2);
    text_is = alone.2 ∙ ap (λ a. replies a asks) opening;
    some = omega (arith, more.0, ap length list);
    raised = λ raised. omega (arith, more.1 (raises raised), ap length list);
  }

-- ---- the script

-- lines print nothing by themselves
quiet_config : (s : Asking) (config : Config) (w : Work Asking) → config_taken s config ≡ Some w → w.text ≡ []
unfolding config_taken
quiet_config (Some a) config w e = absurd (cc e)
quiet_config None config w e = unless (start_fault config) e
  where
    unless : (rule : Option Rule) → begun_unless rule config ≡ Some w → w.text ≡ []
    unless None e = ap (λ (x : Work Asking). x.text) (sym (same_Some _ w e))
    unless (Some rule) e = absurd (cc e)

quiet_ask : (s : Asking) (ask : Ask) (w : Work Asking) → ask_taken s ask ≡ Some w → w.text ≡ []
unfolding ask_taken
quiet_ask None ask w e = absurd (cc e)
quiet_ask (Some a) ask w e = ap (λ (x : Work Asking). x.text) (sym (same_Some _ w e))

quiet_line : (s : Asking) (l : Option Line) (w : Work Asking) → line_taken s l ≡ Some w → w.text ≡ []
quiet_line s None w e = absurd (cc e)
quiet_line s (Some line.Blank) w e = ap (λ (x : Work Asking). x.text) (sym (same_Some _ w e))
quiet_line s (Some (line.Facts facts)) w e = absurd (cc e)
quiet_line s (Some (line.Config config)) w e = quiet_config s config w e
quiet_line s (Some (line.Admin ask)) w e = quiet_ask s ask w e
quiet_line s (Some line.Refresh) w e = absurd (cc e)
quiet_line s (Some (line.Decide q)) w e = absurd (cc e)

bad_is_bad : (s : Asking) (n : ℕ) (moments : List Moment) (o : Output Asking) → ends_bad s n moments ≡ Some o → o.status ≡ Done → o.text ≡ []
bad_is_bad s n [] o e done =
    let bad : BadLine ≡ Done = ap (λ (x : Output Asking). x.status) (same_Some _ o e) ∙ done in absurd (let no : ⊥ = cc bad in no)
bad_is_bad s n (m ∷ ms) o e done = absurd (cc e)

abbrev Quiet : Asking → ℕ → List (List ℕ) → List Moment → Type 0
Quiet s n lines moments = (o : Output Asking) → worked serve_step s n lines moments ≡ Some o → o.status ≡ Done → o.text ≡ []

quiet_first : (s : Asking) (n : ℕ) (line : List ℕ) (lines : List (List ℕ)) (m : Moment) (ms : List Moment) → ((t : Asking) → Quiet t (n + 1) lines ms)
    → (step : Option (Work Asking)) → serve_step s line m ≡ step → (o : Output Asking)
    → option_map_or (λ (w : Work Asking). option_map (before w.text w.decided) (worked serve_step w.state (n + 1) lines ms)) step (ends_bad s n ms) ≡ Some o → o.status ≡ Done → o.text ≡ []
quiet_first s n line lines m ms rest None is o e done = bad_is_bad s n ms o e done
quiet_first s n line lines m ms rest (Some w) is o e done =
    let r = mapped (before w.text w.decided) (worked serve_step w.state (n + 1) lines ms) o e in
    sym (ap (λ (x : Output Asking). x.text) r.2)
    ∙ (ap (λ t. t ++ r.0.text) (quiet_line s (line_of line m) w is)
    ∙ rest w.state r.0 r.1 (ap (λ (x : Output Asking). x.status) r.2 ∙ done))

quiet : (s : Asking) (n : ℕ) (lines : List (List ℕ)) (moments : List Moment) → Quiet s n lines moments
quiet s n [] [] o e done = ap (λ (x : Output Asking). x.text) (sym (same_Some _ o e))
quiet s n [] (m ∷ ms) o e done = absurd (cc e)
quiet s n (line ∷ lines) [] o e done = absurd (cc e)
quiet s n (line ∷ lines) (m ∷ ms) o e done =
    quiet_first s n line lines m ms (λ t. quiet t (n + 1) lines ms) (serve_step s line m) refl o e done

-- the lines were worked, and came to this
module _ (workers : ℕ) (bytes : List ℕ) (clock clock' : Option (List Moment)) where
  abbrev pub Worked_from : Asking → List ℕ → Status → Asking → Type 0
  Worked_from s text status state =
      (decided : List Decided) × Comes Asking (worked serve_step s 1) bytes clock clock' [] (record { text = text; status = status; state = state; decided = decided })

  abbrev pub Worked_to : List ℕ → Status → Asking → Type 0
  Worked_to = Worked_from None

  -- a script begins before its configuration
  pub from_none : (s state end : Asking) (text : List ℕ) (status : Status) → s ≡ None → end ≡ state → Worked_from s text status end → Worked_to text status state
  from_none s state end text status begins ends came =
      subst (λ (t : Asking). Worked_from t text status state) begins (subst (λ (t : Asking). Worked_from s text status t) ends came)

  concluded : (o : Output Asking) → Comes Asking (worked serve_step None 1) bytes clock clock' [] o → Comes Asking taken bytes clock clock' [] (unless_begun (length (lines_of bytes) + 1) o)
  concluded o comes = record {
    moments = comes.moments;
    given = comes.given;
    defined = ap (option_map (unless_begun (length (lines_of bytes) + 1))) comes.defined;
  }

  -- there was no configuration
  pub unprepared : (text text' : List ℕ) (status : Status) → Worked_to text status None → (status ≡ Done) ⊎ (status ≡ BadLine)
      → (status ≡ Done → text' ≡ text ++ bad_line_text (length (lines_of bytes) + 1)) → (status ≡ BadLine → text' ≡ text) → IsPrepared workers bytes clock clock' text' None
  unprepared text text' status came (inl is) done bad =
      let o : Output Asking = record { text = text; status = Done; state = None; decided = came.0 } in (
        unless_begun (length (lines_of bytes) + 1) o,
        concluded o (subst (λ s. Comes Asking (worked serve_step None 1) bytes clock clock' [] (record { text = text; status = s; state = None; decided = came.0 })) is came.1),
        refl,
        done is,
      )
  unprepared text text' status came (inr is) done bad =
      let o : Output Asking = record { text = text; status = BadLine; state = None; decided = came.0 } in (
        unless_begun (length (lines_of bytes) + 1) o,
        concluded o (subst (λ s. Comes Asking (worked serve_step None 1) bytes clock clock' [] (record { text = text; status = s; state = None; decided = came.0 })) is came.1),
        refl,
        bad is,
      )

  -- the configuration started this administration
  module _ (admin : Administration) (asks : List Ask) (replied text : List ℕ) (o : Opened) (ready : IsReady admin asks workers o replied) where
    abbrev a : Asked
    a = record { start = admin; asks = asks }

    pub prepared : (text' : List ℕ) (status : Status) → Worked_to text status (Some a) → status ≡ Done → text' ≡ replied ++ text → IsPrepared workers bytes clock clock' text' (Some o)
    prepared text' status came is printed =
        let out : Output Asking = record { text = text; status = Done; state = Some a; decided = came.0 } in
        let comes : Comes Asking (worked serve_step None 1) bytes clock clock' [] out = subst (λ s. Comes Asking (worked serve_step None 1) bytes clock clock' [] (record { text = text; status = s; state = Some a; decided = came.0 })) is came.1 in
        let none : text ≡ [] = quiet None 1 (lines_of bytes) (comes.moments ++ []) out comes.defined refl in
        let same : text' ≡ replied = printed ∙ (ap (λ t. replied ++ t) none ∙ append-nil replied) in
        (a, out, concluded out comes, refl, refl, none, subst (λ t. IsReady admin asks workers o t) (sym same) ready)

    pub bad : (text' : List ℕ) (status : Status) → Worked_to text status (Some a) → status ≡ BadLine → text' ≡ replied ++ text → IsPrepared workers bytes clock clock' text' None
    bad text' status came is printed =
        let out : Output Asking = record { text = text; status = BadLine; state = Some a; decided = came.0 } in (
          out,
          concluded out (subst (λ s. Comes Asking (worked serve_step None 1) bytes clock clock' [] (record { text = text; status = s; state = Some a; decided = came.0 })) is came.1),
          refl,
          printed ∙ ap (λ t. t ++ text) ready.text_is,
        )
