-- The ids of policies.
use Rattle.std.proofs.Common.{◌≡◌, ◌&&◌, pos, int_lt, List, map, ap, sym, ◌∙◌}
use Rattle.std.proofs.lemmas.List.Folds.{list_all-map}
use Rattle.std.specs.List.{list_all}
use Rattle.std.specs.Ordering.{int_eq}
use Rattle.rg_base.proofs.Lists.{all_distinct-map}
use Rattle.rg_base.specs.Texts.{all_distinct}
use Rattle.rg_policy.specs.declared.policy.Policy.{Policy}
use Rattle.rg_facts.specs.Sound.{ids_sound, same_id}

-- the rule of ids speaks of the ids alone
pub ids_are : (policies : List Policy) → ids_sound policies ≡ (list_all (int_lt (pos 0)) (map (λ (p : Policy). p.id.0) policies) && all_distinct int_eq (map (λ (p : Policy). p.id.0) policies))
unfolding ids_sound
ids_are policies =
    ap (λ b. b && all_distinct same_id policies) (sym (list_all-map (int_lt (pos 0)) (λ (p : Policy). p.id.0) policies))
    ∙ ap (λ b. list_all (int_lt (pos 0)) (map (λ (p : Policy). p.id.0) policies) && b) (sym (all_distinct-map int_eq (λ (p : Policy). p.id.0) policies))
