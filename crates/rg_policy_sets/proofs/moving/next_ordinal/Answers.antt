use Rattle.std.proofs.Common.{◌∙◌, ◌+ℤ◌, ap, pos, rules, w64}
use Rattle.std.proofs.lemmas.Int.{to_z-of_z}
use Rattle.rg_policy_sets.specs.Moved.{are_below}
use Rattle.rg_policy_sets.proofs.Paged.{next_above}
use Rattle.rg_policy_sets.proofs.Refiled.{if_ok}
use Rattle.rg_policy_sets.proofs.moving.next_ordinal.Goals as goal

pub returns-in-Some : goal.returns-in-Some
returns-in-Some g c =
    if_ok c.after.result (λ o is.
    ap (λ n. are_below n c.args.slots.now) (is ∙ ap (λ n. n +ℤ pos 1) (to_z-of_z w64 c.in-Some.last (search rules) ∙ c.in-Some.ensures))
    ∙ next_above c.args.slots.now c.requires) c.after.ensures
