use Rattle.std.proofs.Common.{Contains, ap, subst, sym, ◌∙◌}
use Rattle.std.proofs.lemmas.List.Elements.{Contains-get_or}
use Rattle.rg_policy_sets.specs.Kept.{are_rising}
use Rattle.rg_policy_sets.proofs.Paged.{page_rises}
use Rattle.rg_policy_sets.proofs.pages.held_searched.Goals as goal

pub held_by_halves-requires : goal.held_by_halves-requires
held_by_halves-requires g c =
    let page = c.in-Some.page.now in
    let found = c.in-Some.ensures.lookup in
    ap are_rising c.as_slice.ensures ∙ page_rises c.args.pages.now page c.requires.rising (subst (Contains c.args.pages.now) (sym found.1) (Contains-get_or c.args.pages.now _ page found.3.0))
