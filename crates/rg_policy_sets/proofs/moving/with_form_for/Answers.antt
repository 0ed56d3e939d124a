use Rattle.std.proofs.Common.{◌≡◌, List, true, cond, map, ap, subst, ◌∙◌}
use Rattle.rg_index.specs.Changes.{ids_differ, same_id}
use Rattle.rg_index.specs.Indexed.{Indexed}
use Rattle.rg_index.specs.declared.form.Form.{Form}
use Rattle.rg_policy_sets.proofs.Refiled.{free_changed, if_ok, one_changed}
use Rattle.rg_policy_sets.proofs.moving.with_form_for.Goals as goal

pub apply-requires-clause-free : goal.apply-requires-clause-free
apply-requires-clause-free g c = free_changed c.args.index.now.forms c.args.old.now c.args.new.now c.requires.id

pub returns-clause-forms : goal.returns-clause-forms
returns-clause-forms g c =
    if_ok c.apply.result (λ x made before after is.
    ap (λ (v : Indexed). v.forms) made
    ∙ ap (map (λ f. cond (same_id c.args.old.now f) c.args.new.now f)) is
    ∙ one_changed before after c.args.old.now c.args.new.now (subst (λ (l : List Form). ids_differ l ≡ true) is c.law_of_forms.ensures.apart)) c.apply.ensures.made
