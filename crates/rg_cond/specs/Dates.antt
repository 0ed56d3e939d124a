-- Dates, alone or with a time of day, as policies and tags write them.
use Rattle.std.specs.Prelude.{ℕ, ℤ, pos, ◌+ℤ◌, ◌*ℤ◌, ◌+◌, ◌*◌, ◌&&◌, nat_le, nat_lt, Bool, List, codes, Option, Some, None, if◌then◌else◌}
use Rattle.jiff_core.specs.Calendar.{days_in_month, days_from_civil}
use Rattle.jiff_core.specs.DateTime.{civil_seconds}
use Rattle.jiff_core.specs.declared.civil.datetime.DateTime.{DateTime}
use Rattle.rg_cond.specs.Digits.{has_form, two_at, four_at}

-- what a clock shows: the year, and the seconds since it showed the beginning of 1970
pub record Shown : Type 0 where
  pub year : ℤ
  pub second : ℤ

-- what a date with a time of day shows
abbrev pub shown_of : DateTime → Shown
shown_of dt = record { year = dt.date.year; second = civil_seconds dt }

-- `yyyy/MM/dd`, where `d` stands for a digit
unfoldable pub day_form : List ℕ
day_form = codes "dddd/dd/dd"

-- `yyyy/MM/dd HH:mm:ss`
unfoldable pub moment_form : List ℕ
moment_form = codes "dddd/dd/dd dd:dd:dd"

-- the calendar has this day
abbrev pub is_date : ℕ → ℕ → ℕ → Bool
is_date year month day = nat_le 1 month && (nat_le month 12 && (nat_le 1 day && nat_le day (days_in_month (pos year) month)))

-- a clock shows this hour, minute and second
abbrev pub is_time : ℕ → ℕ → ℕ → Bool
is_time hour minute second = nat_lt hour 24 && (nat_lt minute 60 && nat_lt second 60)

-- the year, month and day of a text that begins with a date
unfoldable pub begins_with_date : List ℕ → Bool
begins_with_date text = is_date (four_at text 0) (two_at text 5) (two_at text 8)

-- the hour, minute and second of a text that ends with a time of day
unfoldable pub ends_with_time : List ℕ → Bool
ends_with_time text = is_time (two_at text 11) (two_at text 14) (two_at text 17)

-- the number of the day from 1970-01-01, times 86,400
unfoldable pub day_start : List ℕ → ℤ
day_start text = days_from_civil (pos (four_at text 0)) (two_at text 5) (two_at text 8) *ℤ pos 86_400

-- the seconds of the day
unfoldable pub day_second : List ℕ → ℕ
day_second text = two_at text 11 * 3600 + two_at text 14 * 60 + two_at text 17

-- a date with a time of day
unfoldable pub moment_of : List ℕ → Option Shown
moment_of text =
    if has_form moment_form text && (begins_with_date text && ends_with_time text)
    then Some (record { year = pos (four_at text 0); second = day_start text +ℤ pos (day_second text) })
    else None

-- a date alone, which is the beginning of the day
unfoldable pub day_of : List ℕ → Option Shown
day_of text =
    if has_form day_form text && begins_with_date text
    then Some (record { year = pos (four_at text 0); second = day_start text })
    else None
