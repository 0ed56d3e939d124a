use Rattle.std.proofs.Common.{◌≡◌, length}
use Rattle.rg_cond.specs.Digits.{has_form}
use Rattle.rg_cond.proofs.digits.has_form.Given as goal

-- what is left has the form that is left, just where the whole does
abbrev pub invariant-marks : goal.invariant-marks
invariant-marks l = has_form l.form l.text ≡ has_form l.fn.form l.fn.text

abbrev pub decreases-marks : goal.decreases-marks
decreases-marks l = length l.form
