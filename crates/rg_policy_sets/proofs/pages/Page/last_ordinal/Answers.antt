use Rattle.std.proofs.Common.{ap, sym, ◌∙◌, pos, rules, w64}
use Rattle.std.proofs.lemmas.Int.{to_z-of_z}
use Rattle.rg_policy_sets.specs.Kept.{Placed, last_ordinal}
use Rattle.rg_policy_sets.proofs.Paged.{last_end}
use Rattle.rg_policy_sets.proofs.pages.Page.last_ordinal.Goals as goal

pub returns-in-Some : goal.returns-in-Some
returns-in-Some g c =
    to_z-of_z w64 c.last.inside.ordinal (search rules)
    ∙ ap (λ (s : Placed g.row.H.Denot). s.ordinal) c.last.view_is
    ∙ sym (ap last_ordinal (sym c.as_slice.ensures ∙ c.in-Some.ensures.cases.0) ∙ last_end (pos 0) c.in-Some.field-0-1.now c.in-Some.last.now)
