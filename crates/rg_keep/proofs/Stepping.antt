-- What a step does by the kind of its ask: one that only looks, one past those that may be kept, one that may be kept.
use Rattle.std.proofs.Common.{◌≡◌, ◌==◌, ◌&&◌, ℕ, ◌≤◌, ◌<◌, Bool, true, false, not, true≢false, List, Option, Ok, refl, sym, ap, ◌∙◌, subst, arith}
use Rattle.std.proofs.lemmas.Bool.Decides.{nat_tests}
use Rattle.rg_cmd.specs.declared.ask.Ask.{Ask}
use Rattle.rg_admin_laws.specs.Logs.{Administration}
use Rattle.rg_ask_wire.specs.Asks.{ask_text}
use Rattle.rg_ask_wire.specs.Keeping.{is_keeping}
use Rattle.rg_ask_wire.specs.Reading.{ask_reading}
use Rattle.rg_keep.specs.Crashes.{IsFit}
use Rattle.rg_keep.specs.Keeping.{Adds, Counts, adds, count_one, is_past}
use Rattle.rg_keep.specs.Replay.{is_kept, most_kept}
use Rattle.rg_keep.proofs.Adding.{adds_none, fit_of, length_added, length_same, look_unkept, passes_left, tells_gain, tells_same}
use Rattle.rg_keep.proofs.Lists.{not_most}

and_false : (b : Bool) → (b && false) ≡ false
and_false true = refl
and_false false = refl

-- ---- where nothing is added

nothing_added : (told : Option (List (List ℕ))) (n : ℕ) (a : Administration) (ask : Ask) → adds n a ask ≡ false → Adds told (adds n a ask) (ask_text ask) told
nothing_added told n a ask none = subst (λ b. Adds told b (ask_text ask) told) (sym none) (adds_none told (ask_text ask))

never_fit : (n : ℕ) (a : Administration) (ask : Ask) → adds n a ask ≡ false → adds n a ask ≡ true → IsFit a ask n
never_fit n a ask none added = absurd (true≢false (sym added ∙ none))

-- an ask that only looks
pub looks_within : (n : ℕ) (ask : Ask) → is_keeping ask.command ≡ false → false ≡ is_past n ask
looks_within n ask looks = sym (ap (λ k. k && n == most_kept) looks)

looks_none : (n : ℕ) (a : Administration) (ask : Ask) → is_keeping ask.command ≡ false → adds n a ask ≡ false
looks_none n a ask looks = ap (λ k. not (n == most_kept) && k) (look_unkept a ask looks) ∙ and_false (not (n == most_kept))

pub looks_add : (told : Option (List (List ℕ))) (n : ℕ) (a : Administration) (ask : Ask) → is_keeping ask.command ≡ false → Adds told (adds n a ask) (ask_text ask) told
looks_add told n a ask looks = nothing_added told n a ask (looks_none n a ask looks)

pub looks_fit : (n : ℕ) (a : Administration) (ask : Ask) → is_keeping ask.command ≡ false → adds n a ask ≡ true → IsFit a ask n
looks_fit n a ask looks = never_fit n a ask (looks_none n a ask looks)

-- an ask past those that may be kept
is_most : (n : ℕ) → n ≤ most_kept → most_kept ≤ n → (n == most_kept) ≡ true
is_most n high low = grind (arith, nat_tests)

pub full_past : (n : ℕ) (ask : Ask) → n ≤ most_kept → most_kept ≤ n → is_keeping ask.command ≡ true → true ≡ is_past n ask
full_past n ask high low keeps = sym (ap (λ k. k && n == most_kept) keeps ∙ is_most n high low)

full_none : (n : ℕ) (a : Administration) (ask : Ask) → n ≤ most_kept → most_kept ≤ n → adds n a ask ≡ false
full_none n a ask high low = ap (λ b. not b && is_kept a ask) (is_most n high low)

pub full_adds : (told : Option (List (List ℕ))) (n : ℕ) (a : Administration) (ask : Ask) → n ≤ most_kept → most_kept ≤ n → Adds told (adds n a ask) (ask_text ask) told
full_adds told n a ask high low = nothing_added told n a ask (full_none n a ask high low)

pub full_fit : (n : ℕ) (a : Administration) (ask : Ask) → n ≤ most_kept → most_kept ≤ n → adds n a ask ≡ true → IsFit a ask n
full_fit n a ask high low = never_fit n a ask (full_none n a ask high low)

-- ---- an ask that may be kept

pub room_within : (n : ℕ) (ask : Ask) → n < most_kept → false ≡ is_past n ask
room_within n ask room = sym (ap (λ b. is_keeping ask.command && b) (not_most n room) ∙ and_false (is_keeping ask.command))

room_adds : (n : ℕ) (a : Administration) (ask : Ask) → n < most_kept → adds n a ask ≡ is_kept a ask
room_adds n a ask room = ap (λ b. not b && is_kept a ask) (not_most n room)

pub record_adds : (told new : Option (List (List ℕ))) (n : ℕ) (a : Administration) (ask : Ask) (b : Bool) (entry : List ℕ) → n < most_kept → entry ≡ ask_text ask → b ≡ is_kept a ask
    → Adds told b entry new → Adds told (adds n a ask) (ask_text ask) new
record_adds told new n a ask b entry room is kept added =
    subst (λ (e : List ℕ). Adds told (adds n a ask) e new) is (subst (λ k. Adds told k entry new) (kept ∙ sym (room_adds n a ask room)) added)

pub record_fit : (n : ℕ) (a : Administration) (ask : Ask) → n < most_kept → ask_reading (ask_text ask) ≡ Ok ask → adds n a ask ≡ true → IsFit a ask n
record_fit n a ask room reads added = fit_of a ask n reads room (sym (room_adds n a ask room) ∙ added)

pub counts_on : (told new : Option (List (List ℕ))) (b : Bool) (entry : List ℕ) (n : ℕ) → Counts told n → n < most_kept → Adds told b entry new → Counts new (count_one n b)
counts_on told new true entry n is room added = record { counts = length_added told new entry n is.counts added; within = omega (arith, room) }
counts_on told new false entry n is room added = record { counts = length_same told new entry n is.counts added; within = is.within }

pub ruleset looking = (looks_within, looks_add, looks_fit, tells_same)

pub ruleset keeping = (room_within, record_adds, record_fit, counts_on, passes_left, tells_gain)

pub ruleset stepping = (full_past, full_adds, full_fit, tells_same)
