use Rattle.std.proofs.Common.{[], Option, option_map, unwrap_or, ap, ◌∙◌}
use Rattle.std.proofs.lemmas.Str.{chars-nil}
use Rattle.rg_policy.specs.declared.request.Element.{Element}
use Rattle.rg_index.proofs.index.value_for.Goals as goal

pub returns-in-None : goal.returns-in-None
returns-in-None c = chars-nil ∙ ap (λ (o : Option Element). unwrap_or (option_map (λ (e : Element). e.value) o) []) c.in-None.ensures
