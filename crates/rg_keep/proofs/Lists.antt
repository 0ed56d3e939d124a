-- Entries one after another.
use Rattle.std.proofs.Common.{◌≡◌, ◌==◌, ◌||◌, ℕ, zero, suc, ◌+◌, ◌≤◌, ◌<◌, Bool, true, false, cond, List, [], ◌∷◌, ◌++◌, length, drop, slice_get, Option, Some, None, refl, sym, ap, ap₂, ◌∙◌, subst, arith}
use Rattle.std.proofs.Math.Seq.{drop-nil}
use Rattle.std.proofs.lemmas.Bool.Decides.{nat_tests}
use Rattle.std.proofs.lemmas.Option.{none-some, same_Some}
use Rattle.rg_admin_laws.specs.Logs.{Administration}
use Rattle.rg_keep.specs.Replay.{after_entries, after_entry, first_bad_from, is_bad, most_kept}
use Rattle.rg_keep.specs.declared.reopen.ReopenCause.{ReopenCause}
use Rattle.rg_keep.specs.declared.reopen.ReopenCause.TheVariants.{Rule, BadRecord, Failed, NoMemory}
use Rattle.rg_keep.specs.Replaying.{IsPart, IsReplaying, IsStopped, IsStoppedIn, Takes}

-- ---- one entry more at the end

pub after_more : (a : Administration) (entries : List (List ℕ)) (entry : List ℕ) → after_entries a (entries ++ entry ∷ []) ≡ after_entry (after_entries a entries) entry
after_more a [] entry = refl
after_more a (e ∷ entries) entry = after_more (after_entry a e) entries entry

pub not_most : (n : ℕ) → n < most_kept → (n == most_kept) ≡ false
not_most n low = grind (arith, nat_tests)

pub good_more : (a : Administration) (place : ℕ) (entries : List (List ℕ)) (entry : List ℕ) → first_bad_from a place entries ≡ None → place + length entries < most_kept
    → is_bad (after_entries a entries) entry ≡ false → first_bad_from a place (entries ++ entry ∷ []) ≡ None
good_more a place [] entry good room is = ap₂ (λ x y. cond (x || y) (Some place) None) (not_most place (omega (arith, room))) is
good_more a place (e ∷ entries) entry good room is = go (place == most_kept || is_bad a e) good (λ h. good_more (after_entry a e) (place + 1) entries entry h (omega (arith, room)) is)
  where
    go : (b : Bool) → cond b (Some place) (first_bad_from (after_entry a e) (place + 1) entries) ≡ None
        → (first_bad_from (after_entry a e) (place + 1) entries ≡ None → first_bad_from (after_entry a e) (place + 1) (entries ++ entry ∷ []) ≡ None)
        → cond b (Some place) (first_bad_from (after_entry a e) (place + 1) (entries ++ entry ∷ [])) ≡ None
    go true h more = absurd (none-some place (sym h))
    go false h more = more h

-- ---- the entry at a place

pub found_at : (entries : List (List ℕ)) (place : ℕ) (entry : List ℕ) → slice_get entries place ≡ Some entry → (drop place entries ≡ entry ∷ drop (suc place) entries) × (place < length entries)
found_at [] place entry is = absurd (none-some entry is)
found_at (e ∷ entries) zero entry is = (ap (λ x. x ∷ entries) (same_Some e entry is), omega arith)
found_at (e ∷ entries) (suc place) entry is = let rest = found_at entries place entry is in (rest.0, omega (arith, rest.1))

pub past_all : (entries : List (List ℕ)) (place : ℕ) → slice_get entries place ≡ None → place ≤ length entries → (drop place entries ≡ []) × (place ≡ length entries)
past_all [] place is le = (drop-nil place, omega (arith, le))
past_all (e ∷ entries) zero is le = absurd (none-some e (sym is))
past_all (e ∷ entries) (suc place) is le = let rest = past_all entries place is (omega (arith, le)) in (rest.0, omega (arith, rest.1))

-- ---- a replay on its way

pub part_begins : (told : Option (List (List ℕ))) (a : Administration) → IsPart told a 0 a
part_begins None a = tt
part_begins (Some entries) a = record { within = omega arith; rest = refl; bad = refl }

pub part_goes_on : (told : Option (List (List ℕ))) (first : Administration) (place : ℕ) (a b : Administration) → IsPart told first place a → Takes told place a true b → IsPart told first (place + 1) b
part_goes_on None first place a b part taken = tt
part_goes_on (Some entries) first place a b part taken =
    let at = found_at entries place taken.entry taken.found in
    let next : place + 1 ≡ suc place = omega arith in
    let rest : drop (place + 1) entries ≡ drop (suc place) entries = ap (λ n. drop n entries) next in
    let here : after_entries a (taken.entry ∷ drop (suc place) entries) ≡ after_entries first entries = ap (after_entries a) (sym at.0) ∙ part.rest in
    let bad : first_bad_from a place (taken.entry ∷ drop (suc place) entries) ≡ first_bad_from first 0 entries = ap (first_bad_from a place) (sym at.0) ∙ part.bad in
    let passes : (place == most_kept || is_bad a taken.entry) ≡ false = ap₂ (λ x y. x || y) taken.within taken.good in
    record {
      within = omega (arith, at.1);
      rest = ap (after_entries b) rest ∙ ap (λ x. after_entries x (drop (suc place) entries)) taken.after ∙ here;
      bad = ap (first_bad_from b (place + 1)) rest
          ∙ ap (λ x. first_bad_from x (place + 1) (drop (suc place) entries)) taken.after
          ∙ ap (λ c. cond c (Some place) (first_bad_from (after_entry a taken.entry) (place + 1) (drop (suc place) entries))) (sym passes)
          ∙ bad;
    }

pub part_ends : (told : Option (List (List ℕ))) (first : Administration) (place : ℕ) (a b : Administration) → IsPart told first place a → Takes told place a false b → IsReplaying told first place b
part_ends None first place a b part taken = tt
part_ends (Some entries) first place a b part taken =
    let end = past_all entries place taken.0 part.within in
    record {
      counts = end.1;
      after = taken.1 ∙ ap (after_entries a) (sym end.0) ∙ part.rest;
      good = sym part.bad ∙ ap (first_bad_from a place) end.0;
    }

pub part_stops : (told : Option (List (List ℕ))) (first : Administration) (place before now later : ℕ) (a : Administration) (cause : ReopenCause) → IsPart told first place a → before ≤ now
    → IsStopped told place a now later cause → IsStoppedIn told first before later cause
part_stops told first place before now later a (Rule rule) part le is = absurd is
part_stops None first place before now later a (BadRecord named) part le is = tt
part_stops (Some entries) first place before now later a (BadRecord named) part le is =
    let at = found_at entries place is.entry is.found in
    sym part.bad
    ∙ ap (first_bad_from a place) at.0
    ∙ ap (λ c. cond c (Some place) (first_bad_from (after_entry a is.entry) (place + 1) (drop (suc place) entries))) is.bad
    ∙ ap (λ n. Some n) (sym is.told)
part_stops told first place before now later a Failed part le is = omega (arith, le, is)
part_stops told first place before now later a NoMemory part le is = tt

-- the next entry of the list that the keeper still has
pub part_next : (told now : Option (List (List ℕ))) (first : Administration) (place : ℕ) (a b : Administration) (more : Bool) → now ≡ told → IsPart told first place a → Takes now place a more b → more ≡ true
    → IsPart told first (place + 1) b
part_next told now first place a b more same part taken is =
    part_goes_on told first place a b part (subst (λ (m : Bool). Takes told place a m b) is (subst (λ o. Takes o place a more b) same taken))

pub part_last : (told now : Option (List (List ℕ))) (first : Administration) (place : ℕ) (a b : Administration) (more : Bool) → now ≡ told → IsPart told first place a → Takes now place a more b → more ≡ false
    → IsReplaying told first place b
part_last told now first place a b more same part taken is =
    part_ends told first place a b part (subst (λ (m : Bool). Takes told place a m b) is (subst (λ o. Takes o place a more b) same taken))

pub part_cut : (told now : Option (List (List ℕ))) (first : Administration) (place before between after : ℕ) (a : Administration) (cause : ReopenCause) → now ≡ told → IsPart told first place a → before ≤ between
    → IsStopped now place a between after cause → IsStoppedIn told first before after cause
part_cut told now first place before between after a cause same part le is =
    part_stops told first place before between after a cause part le (subst (λ o. IsStopped o place a between after cause) same is)

pub ruleset parts = (part_begins, part_next, part_last, part_cut)
