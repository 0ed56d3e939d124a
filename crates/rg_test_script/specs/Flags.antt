-- The command line as `clap` reads it. Only proofs need it.
use Rattle.std.specs.Prelude.{codes, true, Some}
use Rattle.clap.specs.Words.{App, Rule, new_app, new_rule, with_rule}
use Rattle.clap.specs.Simple.{on_top}
use Rattle.clap.specs.declared.builder.action.ArgAction.TheVariants.{SetTrue}

abbrev pub junit_rule : Rule
junit_rule = record (new_rule (codes "JUNIT")) { long = Some (codes "junit"); action = Some SetTrue }

-- a command without a flag for help, over words that begin with the first argument
abbrev pub bare_app : App
bare_app = on_top (λ s. record s { no_binary_name = true; disable_help_flag = true }) (new_app (codes "rangerd-test"))

-- the same with the flag
abbrev pub form_app : App
form_app = with_rule bare_app junit_rule
