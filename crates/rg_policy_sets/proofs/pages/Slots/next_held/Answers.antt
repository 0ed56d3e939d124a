use Rattle.std.proofs.Common.{◌≡◌, ◌∙◌, ℤ, List, [], ◌∷◌, MatchOption, option_map, true, ap, rules, subst, sym, w64}
use Rattle.std.proofs.lemmas.Int.{to_z-of_z}
use Rattle.std.specs.List.{list_all}
use Rattle.rg_policy_sets.specs.Kept.{all_held, held_at, is_held}
use Rattle.rg_policy_sets.proofs.Visiting.{next_held}
use Rattle.rg_policy_sets.proofs.pages.Slots.next_held.Goals as goal

pub returns-in-Some-clause-next : goal.returns-in-Some-clause-next
returns-in-Some-clause-next g c =
    let slots = c.args.self.now in
    let later = c.next.new.self in
    let first : c.args.candidates.now ≡ c.in-Some.ordinal ∷ later = c.in-Some.ensures.steps in
    let there = c.held_at.ensures ∙ ap (held_at slots) (to_z-of_z w64 c.in-Some.ordinal (search rules)) in
    subst (λ (os : List ℤ). MatchOption (option_map (λ h. h.now) c.held_at.result) ((all_held slots os ≡ []) × (all_held slots later ≡ [])) (λ x. all_held slots os ≡ x ∷ all_held slots later)) (sym first)
    (next_held slots c.in-Some.ordinal later (subst (λ (os : List ℤ). list_all (is_held slots) os ≡ true) first c.requires.held) (option_map (λ h. h.now) c.held_at.result) there)
