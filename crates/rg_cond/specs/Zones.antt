-- The handed-in list of time zones.
use Rattle.std.specs.Prelude.{ℕ, ◌-◌, ◌^◌, min, List, Option, is_none, position}
use Rattle.std.specs.Str.{encode_utf8_all}
use Rattle.jiff_tz.specs.PosixReader.{read_whole}
use Rattle.rg_policy.specs.declared.policy.TimeZoneRow.{TimeZoneRow}

-- the place of the first row whose rule is none, by `jiff`
abbrev pub bad_rule : List TimeZoneRow → Option ℕ
bad_rule rows = position (λ (row : TimeZoneRow). is_none (read_whole (encode_utf8_all row.rule))) rows

-- a place as a u32, which stands still at the last one
abbrev pub place_number : ℕ → ℕ
place_number place = min place (2 ^ 32 - 1)
