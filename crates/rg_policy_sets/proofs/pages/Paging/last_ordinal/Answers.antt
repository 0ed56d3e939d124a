use Rattle.std.proofs.Common.{◌++◌, ap, sym, ◌∙◌, rules, w64}
use Rattle.std.proofs.lemmas.Int.{to_z-of_z}
use Rattle.rg_policy_sets.specs.Kept.{Placed, all_in, last_ordinal}
use Rattle.rg_policy_sets.proofs.Paged.{last_after}
use Rattle.rg_policy_sets.proofs.pages.Paging.last_ordinal.Goals as goal

pub returns-in-Some : goal.returns-in-Some
returns-in-Some g c =
    let pages = c.self.inside.pages.items in
    to_z-of_z w64 c.slot.inside.ordinal (search rules)
    ∙ ap (λ (s : Placed g.row.H.Denot). s.ordinal) c.slot.view_is
    ∙ sym (ap last_ordinal (sym c.self.view_is ∙ ap (λ l. all_in pages ++ l) (sym c.deref.ensures.value ∙ c.in-Some.ensures.cases.0)) ∙ last_after pages c.in-Some.field-0-1.now c.in-Some.slot.now)
