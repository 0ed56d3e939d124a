-- What a call does to the keeper's list.
use Rattle.std.proofs.Common.{◌≡◌, inl, inr, ⊎_elim, ◌==◌, ◌&&◌, ◌||◌, ℕ, ◌+◌, ◌<◌, Bool, true, false, not, true≢false, List, [], ◌∷◌, ◌++◌, length, Option, Some, None, Ok, Err, refl, sym, ap, ◌∙◌, subst, arith, length-append}
use Rattle.rg_base.specs.Listed.{Listed}
use Rattle.rg_cmd.specs.declared.ask.AdminReply.{AdminReply}
use Rattle.rg_cmd.specs.declared.ask.Ask.{Ask}
use Rattle.rg_json.specs.declared.fault.Fault.{Fault}
use Rattle.rg_admin_laws.specs.Laws.{is_refused}
use Rattle.rg_admin_laws.specs.Logs.{Administration}
use Rattle.rg_record_store.specs.Keeping.{Gets, IsAt, MayGet, Passes, WithOrWithout}
use Rattle.rg_ask_wire.specs.Asks.{ask_text}
use Rattle.rg_ask_wire.specs.Keeping.{is_keeping}
use Rattle.rg_ask_wire.specs.Reading.{ask_reading}
use Rattle.rg_keep.specs.Crashes.{Gains, IsFit, MayGain, MayLeave, MayTell}
use Rattle.rg_keep.specs.Keeping.{Adds, HasLength}
use Rattle.rg_keep.specs.Replay.{after_entry, after_reading, is_bad, is_good_reading, is_kept, most_kept, stepped}
use Rattle.rg_keep.specs.Replaying.{IsStopped, Takes}
use Rattle.rg_keep.specs.declared.reopen.ReopenCause.TheVariants.{BadRecord}
use Rattle.rg_keep.proofs.Passing.{wider}

-- ---- replies

-- an ask of a command that is kept is kept where the reply doesn't refuse it
pub kept_reply : (a b : Administration) (ask : Ask) (r : AdminReply) → (b, r) ≡ stepped a ask → is_keeping ask.command ≡ true → not (is_refused r) ≡ is_kept a ask
unfolding is_kept
kept_reply a b ask r is keeps = ap (λ (p : Administration × AdminReply). not (is_refused p.1)) is ∙ sym (ap (λ k. k && not (is_refused (stepped a ask).1)) keeps)

pub kept_by_reply : (a b : Administration) (ask : Ask) (r : AdminReply) (refuses : Bool) → (b, r) ≡ stepped a ask → is_keeping ask.command ≡ true → is_refused r ≡ refuses → not refuses ≡ is_kept a ask
kept_by_reply a b ask r refuses is keeps says = ap not (sym says) ∙ kept_reply a b ask r is keeps

pub look_unkept : (a : Administration) (ask : Ask) → is_keeping ask.command ≡ false → is_kept a ask ≡ false
unfolding is_kept
look_unkept a ask looks = ap (λ k. k && not (is_refused (stepped a ask).1)) looks

pub first_of : (a b : Administration) (ask : Ask) (r : AdminReply) → (b, r) ≡ stepped a ask → b ≡ (stepped a ask).0
first_of a b ask r is = ap (λ (p : Administration × AdminReply). p.0) is

-- ---- entries

twice : (b : Bool) → not (not b) ≡ b
twice true = refl
twice false = refl

pub good_ok : (a : Administration) (entry : List ℕ) (ask : Ask) → ask_reading entry ≡ Ok ask → not (is_bad a entry) ≡ is_kept a ask
unfolding is_bad
good_ok a entry ask read = twice (is_good_reading a (ask_reading entry)) ∙ ap (is_good_reading a) read

pub good_err : (a : Administration) (entry : List ℕ) (fault : Fault) → ask_reading entry ≡ Err fault → not (is_bad a entry) ≡ false
unfolding is_bad
good_err a entry fault read = twice (is_good_reading a (ask_reading entry)) ∙ ap (is_good_reading a) read

pub entry_ok : (a : Administration) (entry : List ℕ) (ask : Ask) → ask_reading entry ≡ Ok ask → after_entry a entry ≡ (stepped a ask).0
unfolding after_entry
entry_ok a entry ask read = ap (after_reading a) read

not_bad : (b : Bool) → not b ≡ true → b ≡ false
not_bad true h = absurd (true≢false (sym h))
not_bad false h = refl

bad_so : (b : Bool) → not b ≡ false → b ≡ true
bad_so true h = refl
bad_so false h = absurd (true≢false h)

pub takes_none : (told : Option (List (List ℕ))) (place : ℕ) (a : Administration) → IsAt told place None → Takes told place a false a
takes_none None place a at = tt
takes_none (Some entries) place a at = (sym at, refl)

pub takes_one : (told : Option (List (List ℕ))) (place : ℕ) (a b : Administration) (found : Listed ℕ) → IsAt told place (Some found) → (place == most_kept) ≡ false → not (is_bad a found.items) ≡ true
    → b ≡ after_entry a found.items → Takes told place a true b
takes_one None place a b found at off good after = tt
takes_one (Some entries) place a b found at off good after = record { entry = found.items; found = sym at; within = off; good = not_bad (is_bad a found.items) good; after = after }

pub stops_past : (told : Option (List (List ℕ))) (place : ℕ) (a : Administration) (found : Listed ℕ) (before now : ℕ) → IsAt told place (Some found) → (place == most_kept) ≡ true → IsStopped told place a before now (BadRecord place)
stops_past None place a found before now at on = tt
stops_past (Some entries) place a found before now at on = record { entry = found.items; found = sym at; told = refl; bad = ap (λ b. b || is_bad a found.items) on }

or_true : (b : Bool) → (b || true) ≡ true
or_true true = refl
or_true false = refl

pub stops_bad : (told : Option (List (List ℕ))) (place : ℕ) (a : Administration) (found : Listed ℕ) (before now : ℕ) → IsAt told place (Some found) → not (is_bad a found.items) ≡ false → IsStopped told place a before now (BadRecord place)
stops_bad None place a found before now at bad = tt
stops_bad (Some entries) place a found before now at bad =
    record { entry = found.items; found = sym at; told = refl; bad = ap (λ b. (place == most_kept) || b) (bad_so (is_bad a found.items) bad) ∙ or_true (place == most_kept) }

-- ---- lists

pub adds_none : (told : Option (List (List ℕ))) (entry : List ℕ) → Adds told false entry told
adds_none None entry = refl
adds_none (Some entries) entry = refl

pub adds_one : (told new : Option (List (List ℕ))) (entry : List ℕ) → Gets told entry new → Adds told true entry new
adds_one None new entry gets = gets
adds_one (Some entries) new entry gets = gets

pub gains_none : (told : Option (List (List ℕ))) (b : Bool) (entry : List ℕ) → Gains told b entry told
gains_none None b entry = refl
gains_none (Some entries) b entry = inl refl

pub gains_one : (told new : Option (List (List ℕ))) (b : Bool) (entry : List ℕ) → b ≡ true → MayGet told entry new → Gains told b entry new
gains_one None new b entry is may = may
gains_one (Some entries) new b entry is may = ⊎_elim (λ (same : new ≡ Some entries). inl same) (λ (more : new ≡ Some (entries ++ entry ∷ [])). inr (is, more)) may

leaves_gain : (told : Option (List (List ℕ))) (b : Bool) (entry : List ℕ) → b ≡ true → (left : List (List ℕ)) → WithOrWithout told entry left → MayGain told b entry left
leaves_gain None b entry is left may = tt
leaves_gain (Some entries) b entry is left may = ⊎_elim (λ (same : left ≡ entries). inl same) (λ (more : left ≡ entries ++ entry ∷ []). inr (is, more)) may

pub passes_gain : (told : Option (List (List ℕ))) (b : Bool) (entry : List ℕ) (before now : ℕ) (past since : ℕ → List (List ℕ) → Type 0) → b ≡ true
    → Passes before now past since (WithOrWithout told entry) → Passes before now past since (MayGain told b entry)
passes_gain told b entry before now past since is h = wider before now past since (WithOrWithout told entry) (MayGain told b entry) (leaves_gain told b entry is) h

-- ---- the number of kept commands

more_length : (entries : List (List ℕ)) (entry : List ℕ) → length (entries ++ entry ∷ []) ≡ length entries + 1
more_length entries entry = omega (arith, length-append entries (entry ∷ []))

pub length_added : (told new : Option (List (List ℕ))) (entry : List ℕ) (n : ℕ) → HasLength told n → Adds told true entry new → HasLength new (n + 1)
length_added None new entry n counts added = subst (λ o. HasLength o (n + 1)) (sym added) tt
length_added (Some entries) new entry n counts added = subst (λ o. HasLength o (n + 1)) (sym added) (omega (arith, counts, more_length entries entry))

pub length_same : (told new : Option (List (List ℕ))) (entry : List ℕ) (n : ℕ) → HasLength told n → Adds told false entry new → HasLength new n
length_same None new entry n counts added = subst (λ o. HasLength o n) (sym added) tt
length_same (Some entries) new entry n counts added = subst (λ o. HasLength o n) (sym added) counts

-- ---- the record of an ask

-- where it is kept it is fit, since its record reads as itself
pub fit_of : (a : Administration) (ask : Ask) (n : ℕ) → ask_reading (ask_text ask) ≡ Ok ask → n < most_kept → is_kept a ask ≡ true → IsFit a ask n
fit_of a ask n reads room kept = record { kept = kept; reads = reads; room = room }

gained : (told : Option (List (List ℕ))) (a : Administration) (ask : Ask) (n : ℕ) (entry : List ℕ) → entry ≡ ask_text ask → ask_reading (ask_text ask) ≡ Ok ask → n < most_kept
    → (left : List (List ℕ)) → MayGain told (is_kept a ask) entry left → MayLeave told a ask n left
gained None a ask n entry is reads room left may = tt
gained (Some entries) a ask n entry is reads room left may = ⊎_elim (λ (same : left ≡ entries). inl same)
    (λ (more : (is_kept a ask ≡ true) × (left ≡ entries ++ entry ∷ [])). inr (fit_of a ask n reads room more.0, more.1 ∙ ap (λ e. entries ++ e ∷ []) is)) may

pub passes_left : (told : Option (List (List ℕ))) (a : Administration) (ask : Ask) (n : ℕ) (entry : List ℕ) (before now : ℕ) (past since : ℕ → List (List ℕ) → Type 0)
    → entry ≡ ask_text ask → ask_reading (ask_text ask) ≡ Ok ask → n < most_kept → Passes before now past since (MayGain told (is_kept a ask) entry) → Passes before now past since (MayLeave told a ask n)
passes_left told a ask n entry before now past since is reads room h =
    wider before now past since (MayGain told (is_kept a ask) entry) (MayLeave told a ask n) (gained told a ask n entry is reads room) h

pub tells_gain : (told new : Option (List (List ℕ))) (a : Administration) (ask : Ask) (n : ℕ) (entry : List ℕ) → entry ≡ ask_text ask → ask_reading (ask_text ask) ≡ Ok ask → n < most_kept
    → Gains told (is_kept a ask) entry new → MayTell told a ask n new
tells_gain None new a ask n entry is reads room gains = gains
tells_gain (Some entries) new a ask n entry is reads room gains = ⊎_elim (λ (same : new ≡ Some entries). inl same)
    (λ (more : (is_kept a ask ≡ true) × (new ≡ Some (entries ++ entry ∷ []))). inr (fit_of a ask n reads room more.0, more.1 ∙ ap (λ e. Some (entries ++ e ∷ [])) is)) gains

pub tells_same : (told : Option (List (List ℕ))) (a : Administration) (ask : Ask) (n : ℕ) → MayTell told a ask n told
tells_same None a ask n = refl
tells_same (Some entries) a ask n = inl refl

pub ruleset replies = (kept_by_reply, kept_reply, look_unkept, first_of)

pub ruleset entries = (good_ok, good_err, entry_ok)

pub ruleset takes = (takes_none, takes_one, stops_past, stops_bad)

pub ruleset lists = (adds_none, adds_one, gains_none, gains_one, passes_gain)
