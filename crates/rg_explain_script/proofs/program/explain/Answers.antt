use Rattle.std.proofs.Common.{◌∙◌, sym}
use Rattle.rg_explain_script.proofs.Ending.{answered_so, refused_so, undone}
use Rattle.rg_explain_script.proofs.program.explain.Goals as goal

pub returns-in-Ok-Some-clause-answers : goal.returns-in-Ok-Some-clause-answers
returns-in-Ok-Some-clause-answers g c = answered_so _ _ _ _ _ _ (sym c.in-Ok-Some.field-0-is ∙ c.in-Ok-Some.ensures.asked) c.number.ensures c.explain_by.ensures

pub returns-in-Ok-None-clause-answers : goal.returns-in-Ok-None-clause-answers
returns-in-Ok-None-clause-answers g c = refused_so _ _ _ (sym c.in-Ok-None.field-0-is ∙ c.in-Ok-None.ensures.asked) c.number-in-Ok-None.ensures

pub returns-in-Err-clause-answers : goal.returns-in-Err-clause-answers
returns-in-Err-clause-answers g c = undone _ _ _ c.in-Err.ensures.refused c.number-in-Err.ensures
