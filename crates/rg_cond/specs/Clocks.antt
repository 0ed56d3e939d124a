-- Which instant a clock shows a time at: a clock in UTC, or one in a zone that a POSIX rule gives. What a rule reads as, and which days it
-- names, are `jiff`'s. The offsets restate in short what `jiff` does with a rule, so that a reader needn't believe its code; the law
-- `clock_agrees_with_jiff` ties the two.
use Rattle.std.specs.Prelude.{ℕ, ℤ, pos, neg_ℤ, ◌+ℤ◌, ◌-ℤ◌, ◌*ℤ◌, ◌&&◌, ◌||◌, not, int_le, int_lt, Bool, List, [], Option, Some, None, option_map, option_and_then, if◌then◌else◌}
use Rattle.std.specs.List.{find}
use Rattle.std.specs.Str.{bytes_eq, encode_utf8_all}
use Rattle.jiff_core.specs.Timestamp.{nanos_of_seconds}
use Rattle.jiff_tz.specs.PosixReader.{read_whole}
use Rattle.jiff_tz.specs.PosixRule.{match_some, clamp_to, rule_day, first_nanosecond, last_nanosecond, nanos_per_day, in_window, in_span, saturating_add, saturating_sub}
use Rattle.jiff_tz.specs.PosixText.{TzText, DstText}
use Rattle.jiff_tz.specs.declared.posix.Day.{Day}
use Rattle.rg_base.specs.declared.numbers.Moment.{Moment}
use Rattle.rg_policy.specs.declared.policy.TimeZoneRow.{TimeZoneRow}
use Rattle.rg_cond.specs.Dates.{Shown}
use Rattle.rg_cond.specs.Words.{utc_name, gmt_name}

-- the nanoseconds that a clock shows when a rule's change comes, in a year; the change stays within the year
unfoldable pub change_at : ℤ → Day × ℤ → ℤ
change_at year change = match_some (rule_day year change.0) (last_nanosecond year) (λ day.
    clamp_to (first_nanosecond year) (last_nanosecond year) (day *ℤ nanos_per_day +ℤ nanos_of_seconds change.1))

-- where daylight saving time is ahead by the shift: the hour that it skips counts by standard time, and the hour that it repeats by its own
abbrev pub offset_ahead : ℤ → ℤ → ℤ × ℤ → ℤ → ℤ → ℤ
offset_ahead std dst window shift at =
    if not (in_window window at) then std
    else (if in_span window.0 (saturating_add window.0 shift) at then std else dst)

-- where it is behind: the repeated hour counts by standard time, and the skipped one by daylight saving time
abbrev pub offset_behind : ℤ → ℤ → ℤ × ℤ → ℤ → ℤ → ℤ
offset_behind std dst window shift at =
    if in_window window at then dst
    else (if in_span (saturating_add window.0 shift) window.0 at then std
    else (if in_span window.1 (saturating_sub window.1 shift) at then dst else std))

-- the seconds that the clock is ahead of UTC, by the two offsets and the two changes of the year
abbrev pub offset_by : ℤ → ℤ → ℤ × ℤ → ℤ → ℤ
offset_by std dst window at =
    let shift : ℤ = nanos_of_seconds dst -ℤ nanos_of_seconds std in
    if int_lt dst std then offset_behind std dst window shift at
    else (if int_lt std dst then offset_ahead std dst window shift at else std)

abbrev pub offset_with : ℤ → Option DstText → Shown → ℤ
offset_with std None shown = std
offset_with std (Some dst) shown =
    offset_by std dst.seconds (change_at shown.year dst.start, change_at shown.year dst.finish) (nanos_of_seconds shown.second)

-- how far the rule's clock is ahead of UTC where it shows this time: in a gap and in a fold, as before the change. So a time in a gap goes by the offset before it, and one in a fold is the earlier
unfoldable pub offset_before : TzText → Shown → ℤ
offset_before rule shown = offset_with rule.std_seconds rule.dst shown

-- `jiff` holds this instant, the last of which is 9999-12-30T22:00:00Z
abbrev pub is_held : ℤ → Bool
is_held second = int_le (neg_ℤ (pos 377_705_023_201)) second && int_le second (pos 253_402_207_200)

abbrev pub held : ℤ → Option Moment
held second = if is_held second then Some (record { 0 = second }) else None

-- the instant at which a clock shows this time; no rule is UTC
abbrev pub instant_on : Option TzText → Shown → Option Moment
instant_on None shown = Some (record { 0 = shown.second })
instant_on (Some rule) shown = held (shown.second -ℤ offset_before rule shown)

-- the name stands for UTC
abbrev pub is_utc : List ℕ → Bool
is_utc name = bytes_eq name [] || (bytes_eq name utc_name || bytes_eq name gmt_name)

-- the rule of the first row of this name, where it reads
abbrev pub rule_named : List TimeZoneRow → List ℕ → Option TzText
rule_named rows name = option_and_then (λ (row : TimeZoneRow). read_whole (encode_utf8_all row.rule)) (find (λ (row : TimeZoneRow). bytes_eq row.name name) rows)

-- the clock of a zone's name: UTC's, or the one that the name's rule gives
unfoldable pub clock_of : List TimeZoneRow → List ℕ → Option (Option TzText)
clock_of rows name = if is_utc name then Some None else option_map Some (rule_named rows name)
