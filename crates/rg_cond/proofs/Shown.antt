-- What `jiff`'s dates show, against what a text writes.
use Rattle.std.proofs.Common.{◌≡◌, ℕ, List, ◌+◌, ◌*◌, ℤ, pos, ◌+ℤ◌, ◌*ℤ◌, true, if◌then◌else◌, Some, None, sym, ap, ◌∙◌, arith}
use Rattle.jiff_core.specs.Calendar.{days_from_civil}
use Rattle.jiff_core.specs.Date.{IsYmd}
use Rattle.jiff_core.specs.DateTime.{civil_seconds}
use Rattle.jiff_core.specs.Time.{IsHms}
use Rattle.jiff_core.specs.declared.civil.datetime.DateTime.{DateTime}
use Rattle.jiff_core.proofs.SignedLemmas.{signed_arith}
use Rattle.rg_cond.specs.Dates.{Shown, shown_of, day_form, moment_form, begins_with_date, ends_with_time, day_start, day_second, moment_of, day_of}
use Rattle.rg_cond.specs.Digits.{has_form, two_at, four_at}
use Rattle.std.proofs.lemmas.Bool.{and_from}

abbrev IsDateOf : List ℕ → DateTime → Type 0
IsDateOf text dt = IsYmd (pos (four_at text 0)) (pos (two_at text 5)) (pos (two_at text 8)) dt.date

abbrev IsTimeOf : List ℕ → DateTime → Type 0
IsTimeOf text dt = IsHms (pos (two_at text 11)) (pos (two_at text 14)) (pos (two_at text 17)) (pos 0) dt.time

seconds_same : (text : List ℕ) (dt : DateTime) → IsDateOf text dt → IsTimeOf text dt → shown_of dt ≡ record { year = pos (four_at text 0); second = day_start text +ℤ pos (day_second text) }
unfolding civil_seconds day_start day_second
seconds_same text dt d t =
    let month : dt.date.month ≡ two_at text 5 = cc in
    let day : dt.date.day ≡ two_at text 8 = cc in
    let hour : dt.time.hour ≡ two_at text 11 = cc in
    let minute : dt.time.minute ≡ two_at text 14 = cc in
    let second : dt.time.second ≡ two_at text 17 = cc in
    λ i. record {
      year = d.0 i;
      second = days_from_civil (d.0 i) (month i) (day i) *ℤ pos 86_400 +ℤ pos (hour i * 3600 + minute i * 60 + second i);
    }

-- a date with a time of day shows what the text writes
pub moment_shown : (text : List ℕ) (dt : DateTime) → has_form moment_form text ≡ true → begins_with_date text ≡ true → ends_with_time text ≡ true
    → IsDateOf text dt → IsTimeOf text dt → Some (shown_of dt) ≡ moment_of text
unfolding moment_of
moment_shown text dt form date time d t =
    let written : Shown = record { year = pos (four_at text 0); second = day_start text +ℤ pos (day_second text) } in
    ap Some (seconds_same text dt d t) ∙ sym (ap (λ v. if v then Some written else None) (and_from _ _ form (and_from _ _ date time)))

add_nothing : (z : ℤ) → z +ℤ pos 0 ≡ z
add_nothing z = omega (arith, signed_arith)

start_same : (text : List ℕ) (dt : DateTime) → IsDateOf text dt → IsHms (pos 0) (pos 0) (pos 0) (pos 0) dt.time → shown_of dt ≡ record { year = pos (four_at text 0); second = day_start text +ℤ pos 0 }
unfolding civil_seconds day_start
start_same text dt d t =
    let month : dt.date.month ≡ two_at text 5 = cc in
    let day : dt.date.day ≡ two_at text 8 = cc in
    let hour : dt.time.hour ≡ 0 = cc in
    let minute : dt.time.minute ≡ 0 = cc in
    let second : dt.time.second ≡ 0 = cc in
    λ i. record {
      year = d.0 i;
      second = days_from_civil (d.0 i) (month i) (day i) *ℤ pos 86_400 +ℤ pos (hour i * 3600 + minute i * 60 + second i);
    }

-- and a date alone the beginning of its day
pub day_shown : (text : List ℕ) (dt : DateTime) → has_form day_form text ≡ true → begins_with_date text ≡ true
    → IsDateOf text dt → IsHms (pos 0) (pos 0) (pos 0) (pos 0) dt.time → Some (shown_of dt) ≡ day_of text
unfolding day_of
day_shown text dt form date d t =
    let written : Shown = record { year = pos (four_at text 0); second = day_start text } in
    let at : ℤ → Shown = λ s. record { year = pos (four_at text 0); second = s } in
    ap Some (start_same text dt d t ∙ ap at (add_nothing (day_start text))) ∙ sym (ap (λ v. if v then Some written else None) (and_from _ _ form date))
