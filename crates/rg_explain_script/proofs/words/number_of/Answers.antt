use Rattle.std.proofs.Common.{◌∙◌, refl, sym}
use Rattle.rg_explain_script.specs.Words.{number_of}
use Rattle.rg_explain_script.proofs.Numbers.{read_number}
use Rattle.rg_explain_script.proofs.words.number_of.Goals as goal

pub returns-then-not-is_numeral : goal.returns-then-not-is_numeral
unfolding number_of
returns-then-not-is_numeral c = rw (sym c.is_numeral.ensures ∙ c.if-not-is_numeral.true) refl

pub returns : goal.returns
returns c = c.ok.ensures.value ∙ read_number c.args.word.now c.parse.result c.parse.ensures.value.0 (sym c.is_numeral.ensures ∙ c.if-not-is_numeral.false)
