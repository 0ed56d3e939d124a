use Rattle.std.proofs.Common.{◌≡◌, Some, map, string_bytes}
use Rattle.rg_test_script.specs.CommandLine.{form_of}
use Rattle.rg_test_script.proofs.Ending.{answered_so, no_answer, not_refused, not_usage, undone}
use Rattle.rg_test_script.proofs.program.test.Goals as goal

pub returns-in-Ok-Some-clause-answers : goal.returns-in-Ok-Some-clause-answers
returns-in-Ok-Some-clause-answers g c = λ form is.
    let read : Some c.in-Ok-Some.form ≡ form_of (map string_bytes c.args.words.now) = cc (c.in-Ok-Some.field-0-is, c.in-Ok-Some.ensures.form) in
    answered_so _ _ _ _ _ c.in-Ok-Some.form c.number.ensures read c.test_script.ensures form is

pub returns-in-Err-clause-answers : goal.returns-in-Err-clause-answers
returns-in-Err-clause-answers g c = λ form is. undone form _ _ c.number-in-Err.ensures
