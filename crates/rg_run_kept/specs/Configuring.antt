-- The script of a service that keeps: one configuration, which breaks no rule, among blank lines.
use Rattle.std.specs.Prelude.{◌≡◌, ℕ, List, Option, Some, None}
use Rattle.rg_base.specs.declared.numbers.Moment.{Moment}
use Rattle.rg_cmd.specs.declared.config.Config.{Config}
use Rattle.rg_cmd.specs.declared.rule.Rule.{Rule}
use Rattle.rg_admin.specs.Starting.{start_fault}
use Rattle.rg_script.specs.declared.line.Line.{Line}
use Rattle.rg_script.specs.declared.line.Line.TheVariants as line
use Rattle.rg_script.specs.Line.{line_of}
use Rattle.rg_run_script.specs.Follow.{Work}
use Rattle.rg_run_script.specs.Printed.{quiet}

abbrev pub taken_unless : Option Rule → Config → Option (Work (Option Config))
taken_unless None config = Some (quiet (Some config))
taken_unless (Some rule) config = None

-- the first one is taken, where it breaks no rule; a second one is a bad line
unfoldable pub config_taken : Option Config → Config → Option (Work (Option Config))
config_taken None config = taken_unless (start_fault config) config
config_taken (Some first) config = None

-- commands come over links alone
abbrev pub line_taken : Option Config → Option Line → Option (Work (Option Config))
line_taken s None = None
line_taken s (Some line.Blank) = Some (quiet s)
line_taken s (Some (line.Facts facts)) = None
line_taken s (Some (line.Config config)) = config_taken s config
line_taken s (Some (line.Admin ask)) = None
line_taken s (Some line.Refresh) = None
line_taken s (Some (line.Decide q)) = None

abbrev pub config_step : Option Config → List ℕ → Moment → Option (Work (Option Config))
config_step s bytes now = line_taken s (line_of bytes now)

-- what was taken breaks no rule
abbrev pub IsLawful : Option Config → Type 0
IsLawful None = Unit {0}
IsLawful (Some config) = start_fault config ≡ None
