use Rattle.std.proofs.Common.{◌∙◌, map, string_bytes, sym}
use Rattle.clap.specs.Words.{found_of}
use Rattle.rg_test_script.proofs.CommandLine.{with_flag, without_flag}
use Rattle.rg_test_script.proofs.command.form_of.Goals as goal

pub returns-then-get_flag-clause-form : goal.returns-then-get_flag-clause-form
returns-then-get_flag-clause-form c =
    with_flag (map string_bytes c.args.words.now) (found_of c.in_ok-matches.matches) c.get_flag.result (sym c.ask_for_form.ensures ∙ c.if-not-ask_for_form.false) c.in_ok-matches.ensures
    c.get_flag.ensures.value c.get_flag.ensures.other c.if-get_flag.true

pub returns-clause-form : goal.returns-clause-form
returns-clause-form c =
    without_flag (map string_bytes c.args.words.now) (found_of c.in_ok-matches.matches) c.get_flag.result (sym c.ask_for_form.ensures ∙ c.if-not-ask_for_form.false) c.in_ok-matches.ensures
    c.get_flag.ensures.value c.get_flag.ensures.other c.if-get_flag.false
