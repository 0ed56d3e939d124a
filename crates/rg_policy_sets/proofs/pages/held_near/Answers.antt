use Rattle.std.proofs.Common.{Contains, ap, subst, sym, option_map, ◌∙◌, rules, w64}
use Rattle.std.proofs.lemmas.Int.{to_z-of_z}
use Rattle.std.proofs.lemmas.List.Elements.{Contains-get_or}
use Rattle.rg_policy_sets.specs.Kept.{are_rising, held_at}
use Rattle.rg_policy_sets.proofs.Paged.{page_gives, page_rises}
use Rattle.rg_policy_sets.proofs.pages.held_near.Goals as goal

pub held_in_order-requires : goal.held_in_order-requires
held_in_order-requires g c =
    let page = c.in-Some.page.now in
    let found = c.in-Some.ensures.lookup in
    ap are_rising c.as_slice.ensures ∙ page_rises c.args.pages.now page c.requires.rising (subst (Contains c.args.pages.now) (sym found.1) (Contains-get_or c.args.pages.now _ page found.3.0))

pub returns-in-Some : goal.returns-in-Some
returns-in-Some g c =
    let page = c.in-Some.page.now in
    let found = c.in-Some.ensures.lookup in
    let there = subst (Contains c.args.pages.now) (sym found.1) (Contains-get_or c.args.pages.now _ page found.3.0) in
    page_gives c.args.pages.now page c.requires.rising there c.args.ordinal (option_map (λ h. h.now) c.held_in_order.result)
    (c.held_in_order.ensures ∙ (λ i. held_at (c.as_slice.ensures i) (to_z-of_z w64 c.args.ordinal (search rules) i)))
