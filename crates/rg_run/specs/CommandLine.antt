-- The command line as `clap` reads it. Only proofs need it.
use Rattle.std.specs.Prelude.{codes, true, Some}
use Rattle.clap.specs.Words.{App, Rule, new_app, new_rule, with_rule}
use Rattle.clap.specs.Simple.{on_top}
use Rattle.clap.specs.Lexer.{usize_max}
use Rattle.clap.specs.declared.builder.action.ArgAction.TheVariants.{Set, Append}

-- the word that names the command
abbrev pub word_rule : Rule
word_rule = record (new_rule (codes "WORD")) { required = true; action = Some Set }

-- what follows it
abbrev pub part_rule : Rule
part_rule = record (new_rule (codes "PART")) { range = Some (record { start_inclusive = 0; end_inclusive = usize_max }); action = Some Append }

-- a command without a flag for help, over words that begin with the first argument
abbrev pub bare_app : App
bare_app = on_top (λ s. record s { no_binary_name = true; disable_help_flag = true }) (new_app (codes "rangerd"))

-- the same with the two
abbrev pub words_app : App
words_app = with_rule (with_rule bare_app word_rule) part_rule
