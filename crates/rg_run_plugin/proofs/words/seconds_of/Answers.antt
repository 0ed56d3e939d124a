use Rattle.std.proofs.Common.{◌∙◌, ap, refl, sym}
use Rattle.rg_run_plugin.specs.Words.{seconds_of}
use Rattle.rg_run_plugin.proofs.Seconds.{read_seconds, seconds_in}
use Rattle.rg_run_plugin.proofs.words.seconds_of.Goals as goal

pub returns-then-not-is_numeral : goal.returns-then-not-is_numeral
unfolding seconds_of
returns-then-not-is_numeral c = rw (sym c.is_numeral.ensures ∙ c.if-not-is_numeral.true) refl

pub returns-in-Ok : goal.returns-in-Ok
returns-in-Ok c = c.within_a_day.ensures ∙ (sym (ap seconds_in c.in-Ok.is) ∙ read_seconds c.args.word.now c.parse.result c.parse.ensures.value.0 (sym c.is_numeral.ensures ∙ c.if-not-is_numeral.false))

pub returns-in-Err : goal.returns-in-Err
returns-in-Err c = sym (ap seconds_in c.in-Err.is) ∙ read_seconds c.args.word.now c.parse.result c.parse.ensures.value.0 (sym c.is_numeral.ensures ∙ c.if-not-is_numeral.false)
