use Rattle.std.proofs.Common.{◌∙◌, Some, ap, string_bytes, sym}
use Rattle.clap.specs.Words.{found_of}
use Rattle.rg_explain_script.proofs.CommandLine.{asked, asking, at_error, not_asking}
use Rattle.rg_explain_script.proofs.words.options_of.Goals as goal

pub returns-then-not-are_fitting-clause-asked : goal.returns-then-not-are_fitting-clause-asked
returns-then-not-are_fitting-clause-asked c = not_asking string_bytes c.args.words.now (sym c.are_fitting.ensures ∙ c.if-not-are_fitting.true)

pub returns-in_err-matches-clause-refused : goal.returns-in_err-matches-clause-refused
returns-in_err-matches-clause-refused c = at_error c.from_residual.result _ (asking string_bytes c.args.words.now (sym c.are_fitting.ensures ∙ c.if-not-are_fitting.false))

pub returns-clause-asked : goal.returns-clause-asked
returns-clause-asked c = ap Some c.options_by.ensures ∙ asked string_bytes c.args.words.now (found_of c.in_ok-matches.matches) c.has_flag-json.result c.has_flag-all.result c.number_in-number.result
    (sym c.are_fitting.ensures ∙ c.if-not-are_fitting.false) c.in_ok-matches.ensures c.has_flag-json.ensures c.has_flag-all.ensures c.number_in-number.ensures
