use Rattle.std.proofs.Common.{◌∙◌, refl, sym}
use Rattle.rg_run.specs.Commands.{number_of}
use Rattle.rg_run.proofs.Numbers.{read_number}
use Rattle.rg_run.proofs.command.number_of.Goals as goal

pub returns-then-not-is_numeral : goal.returns-then-not-is_numeral
unfolding number_of
returns-then-not-is_numeral c = rw (sym c.is_numeral.ensures ∙ c.if-not-is_numeral.true) refl

pub returns : goal.returns
returns c = c.ok.ensures.value ∙ read_number c.args.word.now c.parse.result c.parse.ensures.value.0 (sym c.is_numeral.ensures ∙ c.if-not-is_numeral.false)
