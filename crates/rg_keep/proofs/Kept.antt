-- What stands between the administration and the keeper's list goes on standing.
use Rattle.std.proofs.Common.{◌≡◌, inl, inr, ⊎_elim, ◌==◌, ◌&&◌, ℕ, ◌+◌, ◌≤◌, ◌<◌, ◌^◌, min, nat_lt, Bool, true, false, not, true≢false, List, [], ◌∷◌, ◌++◌, length, Option, Some, None, Ok, Err, Result, IfOk, refl, sym, ap, ◌∙◌, subst, arith}
use Rattle.std.proofs.lemmas.Bool.{and_parts}
use Rattle.std.proofs.lemmas.Bool.Decides.{nat_tests}
use Rattle.rg_cmd.specs.declared.ask.Ask.{Ask}
use Rattle.rg_cmd.specs.declared.config.Config.{Config}
use Rattle.rg_json.specs.declared.fault.Fault.{Fault}
use Rattle.rg_cmd.specs.declared.ask.AdminReply.{AdminReply}
use Rattle.rg_admin_laws.specs.Laws.{is_refused}
use Rattle.rg_admin_laws.specs.Logs.{Administration}
use Rattle.rg_admin_laws.specs.Starts.{IsStart}
use Rattle.rg_admin_laws.specs.Steps.{accepted, refused}
use Rattle.rg_admin.specs.Starting.{start_fault, started}
use Rattle.rg_ask_wire.specs.Asks.{ask_text}
use Rattle.rg_ask_wire.specs.Keeping.{is_keeping}
use Rattle.rg_ask_wire.specs.Reading.{ask_reading}
use Rattle.rg_keep.specs.Crashes.{IsFit, MayLeave, MayTell, Survives}
use Rattle.rg_keep.specs.Keeping.{Adds, Agree, Counts, HasLength, IsAnswer, IsCause, IsKept, IsKeptBy, IsReplayed, Reopens, adds, added_if, is_full, is_past, with_count}
use Rattle.rg_keep.specs.declared.kept_admin.KeptReply.{KeptReply}
use Rattle.rg_keep.specs.declared.kept_admin.KeptReply.TheVariants.{Reply, Full}
use Rattle.rg_keep.specs.declared.reopen.ReopenCause.{ReopenCause}
use Rattle.rg_keep.specs.declared.reopen.ReopenCause.TheVariants.{Rule, BadRecord, Failed, NoMemory}
use Rattle.rg_keep.specs.Replay.{after_entries, after_entry, after_reading, first_bad, first_bad_from, is_bad, is_good_reading, is_kept, most_kept, replayed, stepped}
use Rattle.rg_keep.specs.Replaying.{IsNoStart, IsReplaying, IsStoppedIn}
use Rattle.rg_keep.proofs.Alike.{agree_from, counts_one, kept_alike, refused_alike, unkept_cases}
use Rattle.rg_keep.proofs.Lists.{after_more, good_more}
use Rattle.rg_keep.proofs.Written.{AreWritten, looks_count, start_written, step_written}

-- ---- replays

reading_counts : (a : Administration) (read : Result Ask Fault) → (after_reading a read).state.count ≤ a.state.count + 1
reading_counts a (Ok ask) = counts_one a ask
reading_counts a (Err fault) = omega arith

entries_count : (a : Administration) (entries : List (List ℕ)) → (after_entries a entries).state.count ≤ a.state.count + length entries
unfolding after_entry
entries_count a [] = omega arith
entries_count a (entry ∷ entries) = omega (arith, entries_count (after_entry a entry) entries, reading_counts a (ask_reading entry))

reading_written : (a : Administration) (read : Result Ask Fault) → AreWritten a.logs → AreWritten (after_reading a read).logs
reading_written a (Ok ask) all = step_written a ask all
reading_written a (Err fault) all = all

entries_written : (a : Administration) (entries : List (List ℕ)) → AreWritten a.logs → AreWritten (after_entries a entries).logs
unfolding after_entry
entries_written a [] all = all
entries_written a (entry ∷ entries) all = entries_written (after_entry a entry) entries (reading_written a (ask_reading entry) all)

replay_count : (config : Config) (entries : List (List ℕ)) → IsStart (started config) → length entries < most_kept → nat_lt (replayed config entries).state.count (2 ^ 62) ≡ true
unfolding replayed
replay_count config entries start room =
    let low : (after_entries (started config) entries).state.count < 2 ^ 62 = omega (arith, entries_count (started config) entries, start.count, room) in
    grind (arith, nat_tests)

replay_written : (config : Config) (entries : List (List ℕ)) → IsStart (started config) → AreWritten (replayed config entries).logs
unfolding replayed
replay_written config entries start = entries_written (started config) entries (start_written (started config) start)

replay_more : (config : Config) (entries : List (List ℕ)) (entry : List ℕ) → replayed config (entries ++ entry ∷ []) ≡ after_entry (replayed config entries) entry
unfolding replayed
replay_more config entries entry = after_more (started config) entries entry

-- ---- steps

read_so : (a : Administration) (ask : Ask) (entry : List ℕ) → ask_reading entry ≡ Ok ask → after_entry a entry ≡ (stepped a ask).0
unfolding after_entry
read_so a ask entry is = ap (after_reading a) is

good_so : (a : Administration) (ask : Ask) (entry : List ℕ) → ask_reading entry ≡ Ok ask → is_kept a ask ≡ true → is_bad a entry ≡ false
unfolding is_bad
good_so a ask entry is kept = ap (λ read. not (is_good_reading a read)) is ∙ ap not kept

-- an ask that is kept
pub kept_more : (config : Config) (entries : List (List ℕ)) (a : Administration) (ask : Ask) → IsKeptBy config entries a → IsFit a ask (length entries) → IsKeptBy config (entries ++ ask_text ask ∷ []) (stepped a ask).0
unfolding first_bad replayed
kept_more config entries a ask is fit =
    let before = replayed config entries in
    let on = kept_alike before a ask is.agrees (replay_count config entries is.starts fit.room) fit.kept in
    let after : replayed config (entries ++ ask_text ask ∷ []) ≡ (stepped before ask).0 = replay_more config entries (ask_text ask) ∙ read_so before ask (ask_text ask) fit.reads in
    record {
      starts = is.starts;
      lawful = is.lawful;
      good = good config entries (ask_text ask) is.good (omega (arith, fit.room)) (good_so before ask (ask_text ask) fit.reads on.kept);
      agrees = subst (λ x. Agree x (stepped a ask).0) (sym after) on.alike;
    }
  where
    good : (config : Config) (entries : List (List ℕ)) (entry : List ℕ) → first_bad_from (started config) 0 entries ≡ None → 0 + length entries < most_kept → is_bad (replayed config entries) entry ≡ false
        → first_bad_from (started config) 0 (entries ++ entry ∷ []) ≡ None
    good config entries entry all room here = good_more (started config) 0 entries entry all room here

-- an ask that isn't kept
pub kept_same : (config : Config) (entries : List (List ℕ)) (a : Administration) (ask : Ask) → IsKeptBy config entries a → is_kept a ask ≡ false → IsKeptBy config entries (stepped a ask).0
unfolding Agree
kept_same config entries a ask is unkept = record {
  starts = is.starts;
  lawful = is.lawful;
  good = is.good;
  agrees = ⊎_elim
      (λ (refuses : (stepped a ask).0 ≡ refused a). subst (Agree before) (sym refuses) (refused_alike before a is.agrees))
      (λ (looks : (is_keeping ask.command ≡ false) × ((stepped a ask).0 ≡ accepted a ask.command)).
      subst (Agree before) (sym looks.1) (looked looks.0))
      (unkept_cases a ask unkept);
}
  where
    before : Administration
    before = replayed config entries

    logs : AreWritten a.logs
    logs = subst (λ (x : Administration). AreWritten x.logs) (sym is.agrees) (replay_written config entries is.starts)

    looked : is_keeping ask.command ≡ false → Agree before (accepted a ask.command)
    looked looks = agree_from (min (a.state.count + 1) (2 ^ 62)) before (accepted a ask.command) (looks_count a ask.command looks logs ∙ ap (with_count (min (a.state.count + 1) (2 ^ 62))) is.agrees)

-- ---- where the keeper tells its list

fit_at : (a : Administration) (ask : Ask) (n m : ℕ) → n ≡ m → IsFit a ask n → IsFit a ask m
fit_at a ask n m same fit = subst (IsFit a ask) same fit

-- a list that a crash leaves
pub survives : (told : Option (List (List ℕ))) (n : ℕ) (config : Config) (a : Administration) (ask : Ask) → HasLength told n → IsKept told config a
    → (left : List (List ℕ)) → MayLeave told a ask n left → Survives told config a ask left
survives None n config a ask counts is left may = tt
survives (Some entries) n config a ask counts is left may = ⊎_elim
    (λ (same : left ≡ entries). inl (subst (λ l. IsKeptBy config l a) (sym same) is))
    (λ (more : IsFit a ask n × (left ≡ entries ++ ask_text ask ∷ [])). inr (subst (λ l. IsKeptBy config l (stepped a ask).0) (sym more.1) (kept_more config entries a ask is (fit_at a ask n (length entries) counts more.0))))
    may

-- the list of a keeper that comes back
pub reopens : (told new : Option (List (List ℕ))) (n : ℕ) (config : Config) (a : Administration) (ask : Ask) → HasLength told n → IsKept told config a → MayTell told a ask n new → Reopens new config
reopens None new n config a ask counts is may = subst (λ o. Reopens o config) (sym may) tt
reopens (Some entries) new n config a ask counts is may = ⊎_elim
    (λ (same : new ≡ Some entries). subst (λ o. Reopens o config) (sym same) (is.lawful, is.good))
    (λ (more : IsFit a ask n × (new ≡ Some (entries ++ ask_text ask ∷ []))).
    let after = kept_more config entries a ask is (fit_at a ask n (length entries) counts more.0) in
    subst (λ o. Reopens o config) (sym more.1) (after.lawful, after.good))
    may

-- an ask that is not added and not Full isn't kept
looks_unkept : (a : Administration) (ask : Ask) (k : Bool) → is_keeping ask.command ≡ k → (k && true) ≡ false → is_kept a ask ≡ false
unfolding is_kept
looks_unkept a ask true is h = absurd (true≢false h)
looks_unkept a ask false is h = ap (λ b. b && not (is_refused (stepped a ask).1)) is

not_added : (n : ℕ) (a : Administration) (ask : Ask) → adds n a ask ≡ false → is_past n ask ≡ false → is_kept a ask ≡ false
not_added n a ask adds_not past_not = go (n == most_kept) adds_not past_not
  where
    go : (b : Bool) → (not b && is_kept a ask) ≡ false → (is_keeping ask.command && b) ≡ false → is_kept a ask ≡ false
    go true adds_none past = looks_unkept a ask (is_keeping ask.command) refl past
    go false none past = none

past_not_added : (n : ℕ) (a : Administration) (ask : Ask) → is_past n ask ≡ true → adds n a ask ≡ true → ⊥
past_not_added n a ask past added =
    let at = (and_parts (is_keeping ask.command) (n == most_kept) past).1 in
    let off = (and_parts (not (n == most_kept)) (is_kept a ask) added).0 in
    true≢false (sym off ∙ ap not at)

pub after_added : (b : Bool) (entries : List (List ℕ)) (n : ℕ) (config : Config) (a after : Administration) (ask : Ask) (reply : KeptReply) → n ≡ length entries → IsKeptBy config entries a
    → adds n a ask ≡ b → (b ≡ true → IsFit a ask n) → IsAnswer a ask after reply → is_full reply ≡ is_past n ask → IsKeptBy config (added_if b (ask_text ask) entries) after
after_added true entries n config a after ask (Reply reply) counts is added fit answer full =
    subst (IsKeptBy config (entries ++ ask_text ask ∷ [])) (sym (ap (λ (p : Administration × AdminReply). p.0) answer)) (kept_more config entries a ask is (fit_at a ask n (length entries) counts (fit refl)))
after_added true entries n config a after ask Full counts is added fit answer full = absurd (past_not_added n a ask (sym full) added)
after_added false entries n config a after ask (Reply reply) counts is added fit answer full =
    subst (IsKeptBy config entries) (sym (ap (λ (p : Administration × AdminReply). p.0) answer)) (kept_same config entries a ask is (not_added n a ask added (sym full)))
after_added false entries n config a after ask Full counts is added fit answer full = subst (IsKeptBy config entries) (sym answer) is

pub kept_after : (told new : Option (List (List ℕ))) (n : ℕ) (config : Config) (a after : Administration) (ask : Ask) (reply : KeptReply) → HasLength told n → IsKept told config a
    → Adds told (adds n a ask) (ask_text ask) new → (adds n a ask ≡ true → IsFit a ask n) → IsAnswer a ask after reply → is_full reply ≡ is_past n ask → IsKept new config after
kept_after None new n config a after ask reply counts is added fit answer full = subst (λ o. IsKept o config after) (sym added) tt
kept_after (Some entries) new n config a after ask reply counts is added fit answer full =
    subst (λ o. IsKept o config after) (sym added) (after_added (adds n a ask) entries n config a after ask reply counts is refl fit answer full)

-- ---- a replay

pub kept_replay : (told : Option (List (List ℕ))) (n : ℕ) (config : Config) (first a : Administration) → IsStart (started config) → start_fault config ≡ None → first ≡ started config → IsReplaying told first n a
    → IsKept told config a × IsReplayed told config a × HasLength told n
unfolding first_bad replayed Agree
kept_replay None n config first a start lawful same is = (tt, tt, tt)
kept_replay (Some entries) n config first a start lawful same is =
    let after : a ≡ after_entries (started config) entries = is.after ∙ ap (λ x. after_entries x entries) same in (
      record {
        starts = start;
        lawful = lawful;
        good = ap (λ x. first_bad_from x 0 entries) (sym same) ∙ is.good;
        agrees = after ∙ ap (λ k. with_count k (after_entries (started config) entries)) (sym (ap (λ (x : Administration). x.state.count) after));
      },
      after,
      is.counts,
    )

pub replay_kept : (told new : Option (List (List ℕ))) (n : ℕ) (config : Config) (first a : Administration) → start_fault config ≡ None → first ≡ started config → IsStart (started config) → IsReplaying told first n a → new ≡ told
    → IsKept new config a
replay_kept told new n config first a lawful same start is stays = subst (λ o. IsKept o config a) (sym stays) (kept_replay told n config first a start lawful same is).0

pub replay_replayed : (told new : Option (List (List ℕ))) (n : ℕ) (config : Config) (first a : Administration) → start_fault config ≡ None → first ≡ started config → IsStart (started config) → IsReplaying told first n a → new ≡ told
    → IsReplayed new config a
replay_replayed told new n config first a lawful same start is stays = subst (λ o. IsReplayed o config a) (sym stays) (kept_replay told n config first a start lawful same is).1

replay_length : (told : Option (List (List ℕ))) (n : ℕ) (first a : Administration) → IsReplaying told first n a → HasLength told n
replay_length None n first a is = tt
replay_length (Some entries) n first a is = is.counts

pub replay_counts : (told new : Option (List (List ℕ))) (n : ℕ) (first a : Administration) → IsReplaying told first n a → n ≤ most_kept → new ≡ told → Counts new n
replay_counts told new n first a is high stays = subst (λ o. Counts o n) (sym stays) (record { counts = replay_length told n first a is; within = high })

pub stopped_cause : (told : Option (List (List ℕ))) (config : Config) (first : Administration) (before now : ℕ) (cause : ReopenCause) → start_fault config ≡ None → first ≡ started config
    → IsStoppedIn told first before now cause → IsCause cause told config before now
unfolding first_bad
stopped_cause told config first before now (Rule rule) lawful same is = absurd is
stopped_cause None config first before now (BadRecord place) lawful same is = lawful
stopped_cause (Some entries) config first before now (BadRecord place) lawful same is = (lawful, ap (λ x. first_bad_from x 0 entries) (sym same) ∙ is)
stopped_cause told config first before now Failed lawful same is = is
stopped_cause told config first before now NoMemory lawful same is = tt

pub start_cause : (told : Option (List (List ℕ))) (config : Config) (before now : ℕ) (cause : ReopenCause) → IsNoStart config cause → IsCause cause told config before now
start_cause told config before now (Rule rule) is = is
start_cause None config before now (BadRecord place) is = absurd is
start_cause (Some entries) config before now (BadRecord place) is = absurd is
start_cause told config before now Failed is = absurd is
start_cause told config before now NoMemory is = tt

pub starts_as : (config : Config) (a : Administration) → a ≡ started config → IsStart a → IsStart (started config)
starts_as config a same start = subst IsStart same start

pub ruleset starts = (starts_as)

pub ruleset replays = (replay_kept, replay_replayed, replay_counts, stopped_cause, start_cause)

-- ---- results

pub ok_from : {X Y : Type 0} (r : Result X Y) (a b c d e : X → Type 0) → IfOk r a → IfOk r b → IfOk r c → IfOk r d → ((x : X) → a x → b x → c x → d x → e x) → IfOk r e
ok_from (Ok x) a b c d e p q s t f = f x p q s t
ok_from (Err y) a b c d e p q s t f = tt
