use Rattle.std.proofs.Common.{[], ◌∷◌, Contains, rules, ap, subst, sym, ◌∙◌, w64}
use Rattle.std.proofs.lemmas.Int.{to_z-of_z}
use Rattle.std.proofs.lemmas.List.Elements.{Contains-get_or}
use Rattle.rg_policy_sets.specs.Kept.{held_at}
use Rattle.rg_policy_sets.proofs.Visiting.{held_alone}
use Rattle.rg_policy_sets.proofs.slots.held_near.Goals as goal

pub returns-in-Some : goal.returns-in-Some
returns-in-Some g c =
    let slot = c.in-Some.slot.now in
    let found = c.in-Some.ensures.lookup in
    let there = subst (Contains c.args.slots.now) (sym found.1) (Contains-get_or c.args.slots.now c.args.place slot found.3.0) in
    held_alone c.args.ordinal c.args.slots.now c.requires slot there _ (c.held_if.ensures ∙ ap (held_at (slot ∷ [])) (to_z-of_z w64 c.args.ordinal (search rules)))
