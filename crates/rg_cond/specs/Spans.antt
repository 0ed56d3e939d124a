-- The span of a schedule: from its start to its end, both included, where an empty text is open.
use Rattle.std.specs.Prelude.{ℕ, ◌||◌, ◌&&◌, ◌==◌, int_le, int_lt, Bool, true, false, List, length, Option, Some, None, is_none, option_map, unwrap_or, if◌then◌else◌}
use Rattle.std.specs.Str.{encode_utf8_all}
use Rattle.jiff_tz.specs.PosixText.{TzText}
use Rattle.rg_base.specs.declared.numbers.Moment.{Moment}
use Rattle.rg_policy.specs.declared.policy.ScheduleText.{ScheduleText}
use Rattle.rg_policy.specs.declared.policy.TimeZoneRow.{TimeZoneRow}
use Rattle.rg_cond.specs.declared.faults.ScheduleFault.{ScheduleFault}
use Rattle.rg_cond.specs.declared.faults.ScheduleFault.TheVariants.{BadTime, UnknownZone, OutOfRange, EndFirst}
use Rattle.rg_cond.specs.declared.spans.Span.{Span}
use Rattle.rg_cond.specs.Clocks.{clock_of, instant_on}
use Rattle.rg_cond.specs.Dates.{Shown, moment_of}

-- what one end of a schedule shows: nothing where it is open
unfoldable pub end_shown : List ℕ → Option (Option Shown)
end_shown text = if length text == 0 then Some None else option_map Some (moment_of text)

-- the instant of an end on a clock
abbrev pub end_on : Option TzText → Option Shown → Option (Option Moment)
end_on clock None = Some None
end_on clock (Some shown) = option_map Some (instant_on clock shown)

-- there is an end, and it is before a start that there is
abbrev pub is_before : Option Moment → Option Moment → Bool
is_before None start = false
is_before (Some end) None = false
is_before (Some end) (Some start) = int_lt end.0 start.0

abbrev pub ends_first : Span → Bool
ends_first span = is_before span.end span.start

-- the span between two ends on a clock, where both are instants
abbrev pub span_on : Option TzText → Option Shown → Option Shown → Span
span_on clock start end = record {
  start = unwrap_or (end_on clock start) None;
  end = unwrap_or (end_on clock end) None;
}

-- why two ends on a clock make no span: the first cause in this order
abbrev pub placing_fault : Option TzText → Option Shown → Option Shown → Option ScheduleFault
placing_fault clock start end =
    if is_none (end_on clock start) || is_none (end_on clock end) then Some OutOfRange
    else (if ends_first (span_on clock start end) then Some EndFirst else None)

-- what a written end shows; nothing too where it is no time
abbrev pub shown_by : List ℕ → Option Shown
shown_by text = unwrap_or (end_shown (encode_utf8_all text)) None

-- the clock of a zone's name; UTC's too where there is no such zone
abbrev pub clock_by : List TimeZoneRow → List ℕ → Option TzText
clock_by rows zone = unwrap_or (clock_of rows zone) None

-- the span of a schedule that reads
unfoldable pub span_of : List TimeZoneRow → ScheduleText → Span
span_of rows t = span_on (clock_by rows t.time_zone) (shown_by t.start_time) (shown_by t.end_time)

-- a text of the two is no end
abbrev pub is_bad : ScheduleText → Bool
is_bad t = is_none (end_shown (encode_utf8_all t.start_time)) || is_none (end_shown (encode_utf8_all t.end_time))

-- why a schedule doesn't read: the first cause in this order
unfoldable pub schedule_fault : List TimeZoneRow → ScheduleText → Option ScheduleFault
schedule_fault rows t =
    if is_bad t then Some BadTime
    else (if is_none (clock_of rows t.time_zone) then Some UnknownZone
    else placing_fault (clock_by rows t.time_zone) (shown_by t.start_time) (shown_by t.end_time))

-- the start, if there is one, is not after the moment
abbrev pub has_begun : Option Moment → Moment → Bool
has_begun None moment = true
has_begun (Some start) moment = int_le start.0 moment.0

-- the end, if there is one, is not before the moment
abbrev pub is_not_over : Option Moment → Moment → Bool
is_not_over None moment = true
is_not_over (Some end) moment = int_le moment.0 end.0

-- the moment lies in the span
unfoldable pub contains : Span → Moment → Bool
contains span moment = has_begun span.start moment && is_not_over span.end moment
