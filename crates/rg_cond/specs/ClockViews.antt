-- What contracts see of a clock.
use Rattle.std.specs.Prelude.{Bool, true, Option, Some, None, is_some}
use Rattle.jiff.specs.declared.tz.timezone.TimeZone.{TimeZone}
use Rattle.jiff.specs.Words.{plain_zone}
use Rattle.jiff_tz.specs.PosixText.{TzText, tz_view}
use Rattle.jiff_tz.specs.declared.timezone.TimeZone.{TimeZone as PlainZone}
use Rattle.jiff_tz.specs.declared.timezone.TimeZone.TheVariants.{UTC, Unknown, Fixed, Posix, Tzif}

-- what the rule of a zone says
abbrev pub rule_said : PlainZone → Option TzText
rule_said UTC = None
rule_said Unknown = None
rule_said (Fixed offset) = None
rule_said (Posix rule) = Some (tz_view rule)
rule_said (Tzif table) = None

-- the same, where no zone is UTC
abbrev pub said : Option TimeZone → Option TzText
said None = None
said (Some zone) = rule_said (plain_zone zone)

-- a zone that there is has a rule
abbrev pub has_rule : Option TimeZone → Bool
has_rule None = true
has_rule (Some zone) = is_some (rule_said (plain_zone zone))
