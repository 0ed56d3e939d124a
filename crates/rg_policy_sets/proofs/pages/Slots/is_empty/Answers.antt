use Rattle.std.proofs.Common.{◌==◌, ap, length, ◌∙◌}
use Rattle.rg_policy_sets.proofs.Paged.{none_in_pages}
use Rattle.rg_policy_sets.proofs.pages.Slots.is_empty.Goals as goal

pub returns : goal.returns
returns g c = c.is_empty.ensures ∙ none_in_pages c.as_pages.result.now c.as_pages.ensures.filled ∙ ap (λ l. length l == 0) c.as_pages.ensures.slots
