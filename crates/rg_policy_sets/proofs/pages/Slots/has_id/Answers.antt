use Rattle.std.proofs.Common.{ap, ◌∙◌, rules, w64, ℤ}
use Rattle.std.proofs.lemmas.Int.{to_z-of_z}
use Rattle.std.specs.List.{list_any}
use Rattle.std.specs.Ordering.{int_eq}
use Rattle.rg_policy_sets.specs.Kept.{Placed, slot_id, slot_ids}
use Rattle.rg_policy_sets.proofs.Paged.{any_page}
use Rattle.rg_policy_sets.proofs.pages.Slots.has_id.Goals as goal

pub returns : goal.returns
returns g c =
    let form = g.H.Fileable.form_of in
    c.any_page_has.ensures
    ∙ ap (λ (id : ℤ). list_any (λ p. list_any (λ (s : Placed g.row.H.Denot). int_eq (slot_id form s) id) p) c.as_pages.result.now) (to_z-of_z w64 c.args.id (search rules))
    ∙ any_page form c.args.id c.as_pages.result.now
    ∙ ap (λ l. list_any (λ (i : ℤ). int_eq i c.args.id) (slot_ids form l)) c.as_pages.ensures.slots
