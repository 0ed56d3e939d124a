use Rattle.std.proofs.Common.{◌∙◌, rules, subst}
use Rattle.rg_run_script.specs.declared.status.Status.TheVariants.{NoMemory}
use Rattle.rg_run.specs.Commands.{takes_keeper}
use Rattle.rg_run.proofs.Runs.{Ends, completed, undone}
use Rattle.rg_run.proofs.program.run.Goals as goal

pub returns-in-Ok-clause-complete : goal.returns-in-Ok-clause-complete
returns-in-Ok-clause-complete g c = λ command named reads writes links keeper bytes told within.
    subst (λ asked. Ends (takes_keeper asked) c.number.result) c.in-Ok.ensures
    (completed _ _ _ bytes reads writes told within _ _ _ c.in-Ok.command command _ (c.in-Ok.ensures ∙ named) c.number.ensures c.answer.ensures.run links keeper)

pub returns-in-Err-clause-answers : goal.returns-in-Err-clause-answers
returns-in-Err-clause-answers g c = (NoMemory, search rules, undone _ _ _ _)
