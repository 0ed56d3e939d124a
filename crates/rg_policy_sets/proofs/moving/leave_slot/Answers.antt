use Rattle.std.proofs.Common.{◌++◌, ◌∷◌, Contains, sym, ap, subst, ◌∙◌}
use Rattle.rg_index.specs.Filing.{pairs}
use Rattle.rg_policy_sets.proofs.Counting.{edits_alone, no_work}
use Rattle.rg_policy_sets.proofs.Reshelved.{as_many}
use Rattle.rg_policy_sets.proofs.moving.leave_slot.Goals as goal

pub returns-in_err-old-clause-steps : goal.returns-in_err-old-clause-steps
returns-in_err-old-clause-steps g c = no_work _ _ _

pub without_form-requires-clause-among : goal.without_form-requires-clause-among
without_form-requires-clause-among g c = subst (Contains c.args.moving.now.index.forms) (sym c.in_ok-old.ensures) c.requires.among

pub returns-in_err-moving-clause-steps : goal.returns-in_err-moving-clause-steps
returns-in_err-moving-clause-steps g c = as_many (ap (pairs c.args.def.now) c.in_ok-old.ensures) (edits_alone _ _ _ c.without_form.ensures.steps)

pub returns-clause-forms : goal.returns-clause-forms
returns-clause-forms g c = λ before after is. c.in_ok-moving.ensures.forms before after (is ∙ ap (λ f. before ++ f ∷ after) (sym c.in_ok-old.ensures))

pub returns-clause-steps : goal.returns-clause-steps
returns-clause-steps g c = as_many (ap (pairs c.args.def.now) c.in_ok-old.ensures) (edits_alone _ _ _ c.without_form.ensures.steps)
