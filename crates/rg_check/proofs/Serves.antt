-- Lines of `serve` and their reasons.
use Rattle.std.proofs.Common.{Option, Some, None, option_map, Result, Ok, Err, refl}
use Rattle.std.specs.Result.{result_ok}
use Rattle.rg_cmd.specs.declared.config.Config.{Config}
use Rattle.rg_cmd.specs.declared.rule.Rule.{Rule}
use Rattle.rg_admin.specs.Starting.{start_fault}
use Rattle.rg_script.specs.declared.cause.Cause.{Cause}
use Rattle.rg_script.specs.declared.cause.Cause.TheVariants.{OutOfPlace, Refused}
use Rattle.rg_script.specs.declared.cause.Place.{Place}
use Rattle.rg_script.specs.declared.cause.Place.TheVariants as place
use Rattle.rg_script.specs.declared.line.Line.{Line}
use Rattle.rg_script.specs.declared.line.Line.TheVariants as line
use Rattle.rg_script.specs.Line.{line_read}
use Rattle.rg_run_script.specs.Follow.{Work}
use Rattle.rg_run_serve.specs.Serve.{Asking, ask_taken, begun_unless, config_taken, line_taken, serve_step}
use Rattle.rg_check.specs.declared.command.Command.TheVariants as command
use Rattle.rg_check.specs.declared.kind.LineKind.{LineKind}
use Rattle.rg_check.specs.declared.kind.LineKind.TheVariants as kind
use Rattle.rg_check.specs.Checking.{begun}
use Rattle.rg_check.specs.Reasons.{plain_cause, plain_kind}
use Rattle.rg_check.proofs.Agreeing.{Agrees, AllAgree}

-- nothing more is known of what is asked
abbrev pub IsAny : Asking → Type 0
IsAny s = Unit {0}

abbrev ServeAgrees : Place → Option LineKind → Option Cause → Option (Work Asking) → Type 0
ServeAgrees = Agrees (begun place.Config) IsAny

config_agrees : (c : Config) (o : Option Rule) → ServeAgrees place.Start (Some kind.Config) (option_map Refused o) (begun_unless o c)
config_agrees c None = (refl, refl, tt)
config_agrees c (Some rule) = (Refused rule, refl)

line_agrees : (s : Asking) (read : Result Line Cause)
    → ServeAgrees (begun place.Config s) (plain_kind read) (plain_cause command.Serve (begun place.Config s) read) (line_taken s (result_ok read))
unfolding config_taken ask_taken
line_agrees None (Ok line.Blank) = (refl, refl, tt)
line_agrees None (Ok (line.Facts facts)) = (OutOfPlace, refl)
line_agrees None (Ok (line.Config c)) = config_agrees c (start_fault c)
line_agrees None (Ok (line.Admin ask)) = (OutOfPlace, refl)
line_agrees None (Ok line.Refresh) = (OutOfPlace, refl)
line_agrees None (Ok (line.Decide q)) = (OutOfPlace, refl)
line_agrees None (Err cause) = (cause, refl)
line_agrees (Some a) (Ok line.Blank) = (refl, refl, tt)
line_agrees (Some a) (Ok (line.Facts facts)) = (OutOfPlace, refl)
line_agrees (Some a) (Ok (line.Config c)) = (OutOfPlace, refl)
line_agrees (Some a) (Ok (line.Admin ask)) = (refl, refl, tt)
line_agrees (Some a) (Ok line.Refresh) = (OutOfPlace, refl)
line_agrees (Some a) (Ok (line.Decide q)) = (OutOfPlace, refl)
line_agrees (Some a) (Err cause) = (cause, refl)

pub serves_agree : AllAgree command.Serve serve_step (begun place.Config) IsAny
serves_agree s h bytes m = line_agrees s (line_read bytes m)
