-- A schedule whose ends and zone read.
use Rattle.std.proofs.Common.{◌≡◌, List, ◌||◌, if◌then◌else◌, Option, Some, None, is_none, unwrap_or}
use Rattle.std.specs.Str.{encode_utf8_all}
use Rattle.jiff_tz.specs.PosixText.{TzText}
use Rattle.rg_policy.specs.declared.policy.ScheduleText.{ScheduleText}
use Rattle.rg_policy.specs.declared.policy.TimeZoneRow.{TimeZoneRow}
use Rattle.rg_cond.specs.declared.faults.ScheduleFault.TheVariants.{BadTime, UnknownZone}
use Rattle.rg_cond.specs.Clocks.{clock_of}
use Rattle.rg_cond.specs.Dates.{Shown}
use Rattle.rg_cond.specs.Spans.{end_shown, span_of, span_on, placing_fault, schedule_fault}

pub span_is : (rows : List TimeZoneRow) (t : ScheduleText) (clock : Option TzText) (start end : Option Shown)
    → end_shown (encode_utf8_all t.start_time) ≡ Some start → end_shown (encode_utf8_all t.end_time) ≡ Some end → clock_of rows t.time_zone ≡ Some clock
    → span_of rows t ≡ span_on clock start end
unfolding span_of
span_is rows t clock start end s e z = λ i. span_on (unwrap_or (z i) None) (unwrap_or (s i) None) (unwrap_or (e i) None)

pub fault_is : (rows : List TimeZoneRow) (t : ScheduleText) (clock : Option TzText) (start end : Option Shown)
    → end_shown (encode_utf8_all t.start_time) ≡ Some start → end_shown (encode_utf8_all t.end_time) ≡ Some end → clock_of rows t.time_zone ≡ Some clock
    → schedule_fault rows t ≡ placing_fault clock start end
unfolding schedule_fault
fault_is rows t clock start end s e z =
    λ i. if is_none (s i) || is_none (e i) then Some BadTime
    else (if is_none (z i) then Some UnknownZone
    else placing_fault (unwrap_or (z i) None) (unwrap_or (s i) None) (unwrap_or (e i) None))
