use Rattle.std.proofs.Common.{eqb, ◌≡◌, ap, ◌∙◌, sym}
use Rattle.std.specs.List.{list_any}
use Rattle.rg_roles.proofs.Walks.{back_found}
use Rattle.rg_roles.proofs.walk.leads_back.Goals as goal

pub returns : goal.returns
returns c =
    let place = c.args.place in
    let found = c.in_ok-found.found.items in
    let told : c.contains.result ≡ list_any (λ k. eqb k place) found = c.contains.ensures.value ∙ ap (list_any (λ k. eqb k place)) c.deref.ensures.value in
    let back = back_found c.args.chart.now place found c.in_ok-found.ensures in
    (λ h. back.0 (sym told ∙ h), λ r. told ∙ back.1 r)
