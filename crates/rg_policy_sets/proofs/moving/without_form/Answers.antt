use Rattle.std.proofs.Common.{◌≡◌, List, true, not, filter, ap, subst, ◌∙◌}
use Rattle.rg_index.specs.Changes.{ids_differ, same_id}
use Rattle.rg_index.specs.Indexed.{Indexed}
use Rattle.rg_index.specs.declared.form.Form.{Form}
use Rattle.rg_policy_sets.proofs.Refiled.{free_gone, if_ok, one_gone}
use Rattle.rg_policy_sets.proofs.moving.without_form.Goals as goal

pub apply-requires-clause-free : goal.apply-requires-clause-free
apply-requires-clause-free g c = free_gone c.args.index.now.forms c.args.old.now

pub returns-clause-forms : goal.returns-clause-forms
returns-clause-forms g c =
    if_ok c.apply.result (λ x made before after is.
    ap (λ (v : Indexed). v.forms) made
    ∙ ap (filter (λ f. not (same_id c.args.old.now f))) is
    ∙ one_gone before after c.args.old.now (subst (λ (l : List Form). ids_differ l ≡ true) is c.law_of_forms.ensures.apart)) c.apply.ensures.made
