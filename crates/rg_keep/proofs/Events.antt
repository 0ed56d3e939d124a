-- A kept administration over time.
use Rattle.std.proofs.Common.{◌≡◌, ◌∙◌, ◌==◌, ◌&&◌, ◌||◌, ◌++◌, ◌+◌, ◌<◌, ◌≤◌, ℕ, Bool, true, false, not, cond, if◌then◌else◌, List, [], ◌∷◌, length, Option, Some, None, Ok, inl, inr, refl, ap, sym, arith, append_assoc, append-nil}
use Rattle.std.specs.List.{AllByRecursion}
use Rattle.std.proofs.lemmas.Bool.{and_parts}
use Rattle.std.proofs.lemmas.Bool.Decides.{nat_tests}
use Rattle.rg_cmd.specs.declared.ask.Ask.{Ask}
use Rattle.rg_cmd.specs.declared.config.Config.{Config}
use Rattle.rg_admin_laws.specs.Logs.{Administration}
use Rattle.rg_admin_laws.specs.Starts.{IsStart}
use Rattle.rg_admin.specs.Starting.{start_fault, started}
use Rattle.rg_ask_wire.specs.Asks.{ask_text}
use Rattle.rg_ask_wire.specs.Reading.{ask_reading}
use Rattle.rg_keep.specs.Crashes.{IsFit}
use Rattle.rg_keep.specs.Events.{AgreesWith, Answered, AreAmong, BrokenOff, Crashed, Event, HasAcknowledged, IsReadAgain, Reopened, World, answered, broken_off, happens, run}
use Rattle.rg_keep.specs.Keeping.{Agree, IsKeptBy, added_if, adds, is_past}
use Rattle.rg_keep.specs.Replay.{after_entry, first_bad, first_bad_from, is_bad, is_kept, most_kept, replayed, stepped}
use Rattle.rg_keep.specs.declared.kept_admin.KeptReply.TheVariants.{Reply, Full}
use Rattle.rg_keep.proofs.Kept.{after_added}

-- ---- acknowledged commands

among_more : (xs ys : List (List ℕ)) (y : List ℕ) → AreAmong xs ys → AreAmong xs (ys ++ y ∷ [])
among_more [] ys y is = tt
among_more (x ∷ xs) [] y is = absurd is
among_more (x ∷ xs) (z ∷ ys) y (inl is) = inl (is.0, among_more xs ys y is.1)
among_more (x ∷ xs) (z ∷ ys) y (inr is) = inr (among_more (x ∷ xs) ys y is)

among_both : (xs ys : List (List ℕ)) (y : List ℕ) → AreAmong xs ys → AreAmong (xs ++ y ∷ []) (ys ++ y ∷ [])
among_both [] [] y is = inl (refl, tt)
among_both [] (z ∷ ys) y is = inr (among_both [] ys y tt)
among_both (x ∷ xs) [] y is = absurd is
among_both (x ∷ xs) (z ∷ ys) y (inl is) = inl (is.0, among_both xs ys y is.1)
among_both (x ∷ xs) (z ∷ ys) y (inr is) = inr (among_both (x ∷ xs) ys y is)

abbrev Has : List (List ℕ) → List (List ℕ) → List (List ℕ) → Type 0
Has found entries acknowledged = (more : List (List ℕ)) × (entries ≡ found ++ more) × AreAmong acknowledged more

more_there : (found entries more : List (List ℕ)) (entry : List ℕ) → entries ≡ found ++ more → entries ++ entry ∷ [] ≡ found ++ (more ++ entry ∷ [])
more_there found entries more entry e = ap (λ l. l ++ entry ∷ []) e ∙ append_assoc found more (entry ∷ [])

has_both : (b : Bool) (found entries acknowledged : List (List ℕ)) (entry : List ℕ) → Has found entries acknowledged → Has found (added_if b entry entries) (added_if b entry acknowledged)
has_both true found entries acknowledged entry (more, e, is) = (more ++ entry ∷ [], more_there found entries more entry e, among_both acknowledged more entry is)
has_both false found entries acknowledged entry has = has

has_more : (b : Bool) (found entries acknowledged : List (List ℕ)) (entry : List ℕ) → Has found entries acknowledged → Has found (added_if b entry entries) acknowledged
has_more true found entries acknowledged entry (more, e, is) = (more ++ entry ∷ [], more_there found entries more entry e, among_more acknowledged more entry is)
has_more false found entries acknowledged entry has = has

answered_has : (found : List (List ℕ)) (w : World) (o : Option Administration) (ask : Ask) → HasAcknowledged found w → HasAcknowledged found (answered w o ask)
answered_has found w None ask has = has
answered_has found w (Some a) ask has = has_both (adds (length w.entries) a ask) found w.entries w.acknowledged (ask_text ask) has

broken_has : (found : List (List ℕ)) (w : World) (o : Option Administration) (ask : Ask) (is_there : Bool) → HasAcknowledged found w → HasAcknowledged found (broken_off w o ask is_there)
broken_has found w None ask is_there has = has
broken_has found w (Some a) ask is_there has = has_more (is_there && adds (length w.entries) a ask) found w.entries w.acknowledged (ask_text ask) has

event_has : (config : Config) (found : List (List ℕ)) (w : World) (event : Event) → HasAcknowledged found w → HasAcknowledged found (happens config w event)
event_has config found w (Answered ask) has = answered_has found w w.admin ask has
event_has config found w (BrokenOff ask is_there) has = broken_has found w w.admin ask is_there has
event_has config found w Crashed has = has
event_has config found w Reopened has = has

run_has : (config : Config) (found : List (List ℕ)) (w : World) (events : List Event) → HasAcknowledged found w → HasAcknowledged found (run config events w)
run_has config found w [] has = has
run_has config found w (event ∷ events) has = run_has config found (happens config w event) events (event_has config found w event has)

pub nothing_yet : (found : List (List ℕ)) → Has found found []
nothing_yet found = ([], sym (append-nil found), tt)

pub acknowledged_so : (config : Config) (found : List (List ℕ)) (w : World) (events : List Event) → Has found w.entries w.acknowledged → HasAcknowledged found (run config events w)
acknowledged_so config found w events has = run_has config found w events has

-- ---- lists that are opened again

-- a list without a bad record has no more than may be kept
good_length : (a : Administration) (place : ℕ) (entries : List (List ℕ)) → place ≤ most_kept → first_bad_from a place entries ≡ None → place + length entries ≤ most_kept
good_length a place [] low none = omega (arith, low)
good_length a place (entry ∷ entries) low none = by (place == most_kept) (is_bad a entry) none (λ off rest. omega (arith, good_length (after_entry a entry) (place + 1) entries (next off) rest))
  where
    next : (place == most_kept) ≡ false → place + 1 ≤ most_kept
    next off = grind (arith, nat_tests)

    by : (most bad : Bool) → cond (most || bad) (Some place) (first_bad_from (after_entry a entry) (place + 1) entries) ≡ None
        → (most ≡ false → first_bad_from (after_entry a entry) (place + 1) entries ≡ None → place + length (entry ∷ entries) ≤ most_kept) → place + length (entry ∷ entries) ≤ most_kept
    by true bad is on = absurd (cc is)
    by false true is on = absurd (cc is)
    by false false is on = on refl is

few : (config : Config) (entries : List (List ℕ)) → first_bad config entries ≡ None → length entries ≤ most_kept
unfolding first_bad
few config entries none = omega (arith, good_length (started config) 0 entries (omega arith) none)

fits : (n : ℕ) (a : Administration) (ask : Ask) → n ≤ most_kept → ask_reading (ask_text ask) ≡ Ok ask → adds n a ask ≡ true → IsFit a ask n
fits n a ask low reads added =
    let parts = and_parts (not (n == most_kept)) (is_kept a ask) added in
    record { kept = parts.1; reads = reads; room = off parts.0 }
  where
    off : not (n == most_kept) ≡ true → n < most_kept
    off is = grind (arith, nat_tests)

module _ (config : Config) (entries : List (List ℕ)) (a : Administration) (ask : Ask) (is : IsKeptBy config entries a) (reads : ask_reading (ask_text ask) ≡ Ok ask) where
  abbrev n : ℕ
  n = length entries

  fit : adds n a ask ≡ true → IsFit a ask n
  fit added = fits n a ask (few config entries is.good) reads added

  kept_by : (past : Bool) → is_past n ask ≡ past → IsKeptBy config (added_if (adds n a ask) (ask_text ask) entries) (if past then a else (stepped a ask).0)
  kept_by true past = after_added (adds n a ask) entries n config a a ask Full refl is refl fit refl (sym past)
  kept_by false past = after_added (adds n a ask) entries n config a (stepped a ask).0 ask (Reply (stepped a ask).1) refl is refl fit refl (sym past)

  good_by : (is_there : Bool) → first_bad config (added_if (is_there && adds n a ask) (ask_text ask) entries) ≡ None
  good_by true = (kept_by (is_past n ask) refl).good
  good_by false = is.good

-- what the list makes
made : (config : Config) (entries : List (List ℕ)) → IsStart (started config) → start_fault config ≡ None → first_bad config entries ≡ None → IsKeptBy config entries (replayed config entries)
unfolding Agree
made config entries starts lawful good = record { starts = starts; lawful = lawful; good = good; agrees = refl }

good_of : (config : Config) (entries : List (List ℕ)) (o : Option Administration) → AgreesWith config entries o → first_bad config entries ≡ None
good_of config entries None is = is
good_of config entries (Some a) is = is.good

answered_agrees : (config : Config) (w : World) (o : Option Administration) (ask : Ask) → ask_reading (ask_text ask) ≡ Ok ask → AgreesWith config w.entries w.admin → AgreesWith config w.entries o
    → AgreesWith config (answered w o ask).entries (answered w o ask).admin
answered_agrees config w None ask reads all is = all
answered_agrees config w (Some a) ask reads all is = kept_by config w.entries a ask is reads (is_past (length w.entries) ask) refl

broken_agrees : (config : Config) (w : World) (o : Option Administration) (ask : Ask) (is_there : Bool) → ask_reading (ask_text ask) ≡ Ok ask → AgreesWith config w.entries w.admin → AgreesWith config w.entries o
    → AgreesWith config (broken_off w o ask is_there).entries (broken_off w o ask is_there).admin
broken_agrees config w None ask is_there reads all is = all
broken_agrees config w (Some a) ask is_there reads all is = good_by config w.entries a ask is reads is_there

event_agrees : (config : Config) (w : World) (event : Event) → IsStart (started config) → start_fault config ≡ None → IsReadAgain event → AgreesWith config w.entries w.admin
    → AgreesWith config (happens config w event).entries (happens config w event).admin
event_agrees config w (Answered ask) starts lawful reads is = answered_agrees config w w.admin ask reads is is
event_agrees config w (BrokenOff ask is_there) starts lawful reads is = broken_agrees config w w.admin ask is_there reads is is
event_agrees config w Crashed starts lawful reads is = good_of config w.entries w.admin is
event_agrees config w Reopened starts lawful reads is = made config w.entries starts lawful (good_of config w.entries w.admin is)

pub run_agrees : (config : Config) (w : World) (events : List Event) → IsStart (started config) → start_fault config ≡ None → AllByRecursion IsReadAgain events → AgreesWith config w.entries w.admin
    → AgreesWith config (run config events w).entries (run config events w).admin
run_agrees config w [] starts lawful reads is = is
run_agrees config w (event ∷ events) starts lawful reads is =
    run_agrees config (happens config w event) events starts lawful reads.1 (event_agrees config w event starts lawful reads.0 is)
