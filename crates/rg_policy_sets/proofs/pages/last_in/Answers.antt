use Rattle.std.proofs.Common.{ap, sym, ◌∙◌, rules, w64}
use Rattle.std.proofs.lemmas.Int.{to_z-of_z}
use Rattle.std.specs.List.{list_all}
use Rattle.rg_policy_sets.specs.Kept.{all_in, is_filled, last_ordinal}
use Rattle.rg_policy_sets.proofs.Paged.{filled_parts, last_of_pages}
use Rattle.rg_policy_sets.proofs.pages.last_in.Goals as goal

pub returns-in-Some : goal.returns-in-Some
returns-in-Some g c =
    let rest = c.in-Some.field-0-1.now in
    let page = c.in-Some.page.now in
    let is = c.in-Some.ensures.cases.0 in
    to_z-of_z w64 c.last_ordinal.result (search rules)
    ∙ c.last_ordinal.ensures
    ∙ sym (ap (λ l. last_ordinal (all_in l)) is ∙ last_of_pages rest page (filled_parts rest page (ap (list_all is_filled) (sym is) ∙ c.requires)).1)
